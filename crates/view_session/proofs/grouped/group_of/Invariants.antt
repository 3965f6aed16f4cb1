use Rattle.std.proofs.Common.{◌≡◌, take}
use Rattle.view_session.specs.Group.{IsOver}
use Rattle.view_session.proofs.grouped.group_of.Given as goal

abbrev pub invariant-loop-change : goal.invariant-loop-change
invariant-loop-change l = record {
  same : l.catalogue.databases ≡ l.initial.catalogue.databases;
  held : l.group.draft.changes ≡ take l.change-index l.changes;
  over : IsOver l.group l.catalogue.databases;
}
