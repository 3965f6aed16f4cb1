use Rattle.std.proofs.Common.{take}
use Rattle.std.specs.List.{AllZip}
use Rattle.schema_delta.specs.Flat.{MovesGroup}
use Rattle.schema_delta.proofs.group.by_rows.Given as goal

abbrev pub invariant-loop-spec : goal.invariant-loop-spec
invariant-loop-spec l = AllZip (MovesGroup l.catalogue.databases l.changes) (take l.spec-index l.specs) l.deltas.items
