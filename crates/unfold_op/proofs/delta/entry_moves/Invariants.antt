use Rattle.std.proofs.Common.{◌≡◌, take}
use Rattle.std.specs.List.{filter_map}
use Rattle.unfold_op.specs.FactMoves.{entry_move}
use Rattle.unfold_op.proofs.delta.entry_moves.Given as goal

abbrev pub invariant-loop-m : goal.invariant-loop-m
invariant-loop-m l = l.entries.items ≡ filter_map (entry_move l.shape) (take l.m-index l.moves)
