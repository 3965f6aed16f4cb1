use Rattle.std.proofs.Common.{◌≡◌, None}
use Rattle.engine_tests.proofs.meant.first_other.Given as goal

abbrev pub invariant-loop-place : goal.invariant-loop-place
invariant-loop-place g l = (l.session.held ≡ None) × (l.session.proposed ≡ None)
