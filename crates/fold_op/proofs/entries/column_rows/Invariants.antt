use Rattle.std.proofs.Common.{◌≡◌, take, map}
use Rattle.operator_law.specs.Rows.{cells_at}
use Rattle.fold_op.specs.Cells.{cell_at}
use Rattle.fold_op.specs.Flat.{entry}
use Rattle.fold_op.proofs.entries.column_rows.Given as goal

abbrev pub invariant-loop-row : goal.invariant-loop-row
invariant-loop-row l = l.flat.items ≡ map (λ row. entry (cells_at l.places row) l.name (cell_at row l.place)) (map (λ r. r.now) (take l.row-index l.rows))
