use Rattle.std.proofs.Common.{◌≡◌}
use Rattle.apply_law.specs.Standing.{Idle}
use Rattle.engine_tests.proofs.proposals.first_other.Given as goal

abbrev pub invariant-loop-place : goal.invariant-loop-place
invariant-loop-place g l = g.A.Applies.waits l.taker ≡ Idle
