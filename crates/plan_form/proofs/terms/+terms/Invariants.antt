use Rattle.std.proofs.Common.{◌≡◌, ◌++◌, drop, map}
use Rattle.view_def.specs.Conditions.{condition_of, conditions_of}
use Rattle.view_def.specs.Terms.{terms_of_each}
use Rattle.plan_form.proofs.terms.+terms.Given as goal

-- what is left comes behind
abbrev pub invariant-push_terms_of_each-loop-member : goal.invariant-push_terms_of_each-loop-member
invariant-push_terms_of_each-loop-member l =
    l.terms.items ++ terms_of_each (conditions_of (map condition_of (drop l.member-index l.members)))
    ≡ l.fn.terms.items ++ terms_of_each (conditions_of (map condition_of l.members))
