use Rattle.std.proofs.Common.{◌≡◌, take}
use Rattle.other_operators.specs.RowCounts.{row_moves}
use Rattle.other_operators.proofs.bag.row_moves.Given as goal

abbrev pub invariant-loop-m : goal.invariant-loop-m
invariant-loop-m l = l.keys.items ≡ row_moves (take l.m-index l.moves)
