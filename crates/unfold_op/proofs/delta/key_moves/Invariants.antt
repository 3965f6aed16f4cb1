use Rattle.std.proofs.Common.{◌≡◌, map, take}
use Rattle.unfold_op.specs.FactMoves.{key_move}
use Rattle.unfold_op.proofs.delta.key_moves.Given as goal

abbrev pub invariant-loop-m : goal.invariant-loop-m
invariant-loop-m l = l.keys.items ≡ map (key_move l.shape) (take l.m-index l.moves)
