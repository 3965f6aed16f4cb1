use Rattle.std.proofs.Common.{◌≡◌, take}
use Rattle.schema_model.proofs.ready.with_last.Given as goal

abbrev pub invariant-loop-cell : goal.invariant-loop-cell
invariant-loop-cell l = l.texts.items ≡ take l.cell-index l.cells
