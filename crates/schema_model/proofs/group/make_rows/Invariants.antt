use Rattle.std.proofs.Common.{◌≡◌, length, reverse}
use Rattle.schema_model.specs.Sound.{IsCounted}
use Rattle.schema_model.specs.States.{plain_databases}
use Rattle.schema_model.specs.Groups.{all_waits, AreRowEdits, all_edited, AreWaiting, all_own, AreOwn}
use Rattle.schema_model.proofs.group.make_rows.Given as goal

abbrev pub invariant-loop-edit : goal.invariant-loop-edit
invariant-loop-edit l = record {
  edits : AreRowEdits (reverse l.left.items) (plain_databases l.databases.items);
  waits : AreWaiting (reverse l.left.items) (all_waits l.databases.items);
  own : AreOwn (reverse l.left.items) (all_own l.databases.items);
  same : all_edited (reverse l.left.items) (plain_databases l.databases.items) ≡ all_edited (reverse l.fn.edits.items) (plain_databases l.fn.databases.items);
  counted : IsCounted (plain_databases l.databases.items) l.count;
}

abbrev pub decreases-loop-edit : goal.decreases-loop-edit
decreases-loop-edit l = length l.left.items
