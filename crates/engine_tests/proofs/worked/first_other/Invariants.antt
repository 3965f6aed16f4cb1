use Rattle.std.proofs.Common.{◌≡◌, None}
use Rattle.engine_tests.proofs.worked.first_other.Given as goal

abbrev pub invariant-loop-line : goal.invariant-loop-line
invariant-loop-line g l = (l.session.held ≡ None) × (l.session.proposed ≡ None)
