use Rattle.std.proofs.Common.{◌≡◌, ◌++◌}
use Rattle.plan_form.proofs.form.push_all.Given as goal

abbrev pub invariant-loop-term : goal.invariant-loop-term
invariant-loop-term l = l.terms.items ≡ l.fn.terms.items ++ l.yielded
