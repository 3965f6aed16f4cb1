use Rattle.std.proofs.Common.{◌≡◌, take}
use Rattle.std.specs.List.{AllZip}
use Rattle.schema_delta.specs.Flat.{MovesFlat}
use Rattle.schema_delta.proofs.changes.flat_changes.Given as goal

abbrev pub invariant-loop-spec : goal.invariant-loop-spec
invariant-loop-spec g l = record {
  moved : AllZip (MovesFlat l.catalogue.databases l.change) (take l.spec-index l.specs) l.deltas.items;
  counted : l.steps ≡ l.fn.steps;
}
