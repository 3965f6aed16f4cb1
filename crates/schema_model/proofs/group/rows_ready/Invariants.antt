use Rattle.std.proofs.Common.{◌≡◌, true, None, length, reverse}
use Rattle.std.specs.List.{list_all}
use Rattle.schema_model.specs.Changes.{after_all}
use Rattle.schema_model.specs.Refusals.{group_fault}
use Rattle.schema_model.specs.States.{plain_databases}
use Rattle.schema_model.specs.Groups.{is_of_row, all_waits, AreRowEdits, all_edited, AreWaiting, all_own, AreOwn}
use Rattle.schema_model.proofs.group.rows_ready.Given as goal

abbrev pub invariant-loop-change : goal.invariant-loop-change
invariant-loop-change l = record {
  same : plain_databases l.databases.items ≡ plain_databases l.fn.databases.items;
  rows : list_all is_of_row l.left ≡ true;
  accepted : group_fault (plain_databases l.fn.databases.items) l.left ≡ None;
  edits : AreRowEdits (reverse l.edits.items) (after_all (plain_databases l.fn.databases.items) l.left);
  makes : all_edited (reverse l.edits.items) (after_all (plain_databases l.fn.databases.items) l.left) ≡ after_all (plain_databases l.fn.databases.items) l.fn.changes;
  waits : AreWaiting (reverse l.edits.items) (all_waits l.databases.items);
  own : AreOwn (reverse l.edits.items) (all_own l.databases.items);
}

abbrev pub decreases-loop-change : goal.decreases-loop-change
decreases-loop-change l = length l.left
