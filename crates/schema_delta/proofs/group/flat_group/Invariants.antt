use Rattle.std.proofs.Common.{◌≡◌}
use Rattle.std.specs.List.{AllZip}
use Rattle.schema_delta.specs.Flat.{MovesBetween}
use Rattle.schema_delta.proofs.GroupLemmas.{IsLeft}
use Rattle.schema_delta.proofs.group.flat_group.Given as goal

abbrev pub invariant-loop-change : goal.invariant-loop-change
invariant-loop-change g l = record {
  moved : AllZip (MovesBetween l.catalogue.databases l.present.databases) l.specs l.deltas.items;
  left : IsLeft l.catalogue.databases l.changes l.present.databases l.change-index;
  counted : l.steps ≡ l.fn.steps;
}
