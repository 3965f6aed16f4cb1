use Rattle.std.proofs.Common.{◌≡◌, take}
use Rattle.std.specs.List.{filter_map}
use Rattle.unfold_op.specs.FactMoves.{column_move}
use Rattle.unfold_op.proofs.delta.column_moves.Given as goal

abbrev pub invariant-loop-m : goal.invariant-loop-m
invariant-loop-m l = l.columns.items ≡ filter_map (column_move l.shape) (take l.m-index l.moves)
