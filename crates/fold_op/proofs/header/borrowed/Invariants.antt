use Rattle.std.proofs.Common.{◌≡◌, take, map}
use Rattle.fold_op.proofs.header.borrowed.Given as goal

abbrev pub invariant-loop-row : goal.invariant-loop-row
invariant-loop-row l = map (λ r. r.now) l.refs.items ≡ take l.row-index l.rows
