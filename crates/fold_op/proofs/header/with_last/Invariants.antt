use Rattle.std.proofs.Common.{◌≡◌, take, map}
use Rattle.fold_op.specs.Sheets.{with_last}
use Rattle.fold_op.proofs.header.with_last.Given as goal

abbrev pub invariant-loop-row : goal.invariant-loop-row
invariant-loop-row l = l.wider.items ≡ with_last l.fill (map (λ r. r.now) (take l.row-index l.rows))
