use Rattle.std.proofs.Common.{◌≡◌, take}
use Rattle.operator_law.specs.Rows.{cells_at}
use Rattle.other_operators.proofs.project.cells_at.Given as goal

abbrev pub invariant-loop-place : goal.invariant-loop-place
invariant-loop-place l = l.cells.items ≡ cells_at (take l.place-index l.places) l.row
