use Rattle.std.proofs.Common.{◌≡◌, ◌++◌}
use Rattle.operator_law.proofs.delta.Delta.followed_by.Given as goal

abbrev pub invariant-loop-m : goal.invariant-loop-m
invariant-loop-m l = l.moves.items ≡ l.fn.self ++ l.yielded
