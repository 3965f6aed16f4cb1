use Rattle.std.proofs.Common.{◌≡◌, ◌++◌, drop, map}
use Rattle.view_def.specs.Conditions.{condition_of, conditions_of}
use Rattle.view_def.specs.Terms.{terms_of_each}
use Rattle.valuation_meaning.specs.EarlyTests.{terms_now}
use Rattle.valuation_meaning.proofs.early.+terms.Given as goal

-- what is left comes behind
abbrev pub invariant-push_terms_of_each-loop-member : goal.invariant-push_terms_of_each-loop-member
invariant-push_terms_of_each-loop-member l =
    terms_now l.terms.items ++ terms_of_each (conditions_of (map condition_of (drop l.member-index l.members)))
    ≡ terms_now l.fn.terms.items ++ terms_of_each (conditions_of (map condition_of l.members))
