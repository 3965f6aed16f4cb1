use Rattle.std.proofs.Common.{◌≡◌, take, map}
use Rattle.operator_law.specs.Rows.{cells_at}
use Rattle.fold_op.proofs.pick.pick_rows.Given as goal

abbrev pub invariant-loop-row : goal.invariant-loop-row
invariant-loop-row l = l.flat.items ≡ map (cells_at l.places.items) (map (λ r. r.now) (take l.row-index l.rows))
