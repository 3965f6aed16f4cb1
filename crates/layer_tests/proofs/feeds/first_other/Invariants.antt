use Rattle.std.proofs.Common.{◌≡◌}
use Rattle.apply_law.specs.Standing.{Idle}
use Rattle.layer_tests.proofs.feeds.first_other.Given as goal

abbrev pub invariant-loop-place : goal.invariant-loop-place
invariant-loop-place g l = g.A.Applies.waits l.to ≡ Idle
