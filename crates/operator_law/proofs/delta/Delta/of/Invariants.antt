use Rattle.std.proofs.Common.{◌≡◌}
use Rattle.operator_law.specs.Bags.{all_signed}
use Rattle.operator_law.proofs.delta.Delta.of.Given as goal

abbrev pub invariant-loop-row : goal.invariant-loop-row
invariant-loop-row l = l.moves.items ≡ all_signed l.up l.yielded
