use Rattle.std.proofs.Common.{◌≡◌, true, sym, subst, ◌∙◌, ℕ}
use Rattle.view_def.specs.Conditions.{condition_of}
use Rattle.view_def.specs.Terms.{terms_of}
use Rattle.view_meaning.specs.Terms.{value_of, are_defined, is_true}
use Rattle.view_meaning.specs.Early.{are_bound}
use Rattle.valuation_meaning.specs.EarlyTests.{IsEarlyMember}
use Rattle.valuation_meaning.proofs.EarlyLemmas.{ended_by_member, unknown}
use Rattle.valuation_meaning.proofs.early.fails_member.Goals as goal

pub returns-then-not-unwrap_or : goal.returns-then-not-unwrap_or
returns-then-not-unwrap_or c = λ _ q all.
    let v = c.args.valuation.now in
    let m = condition_of c.test-item.result.condition.now in
    let here = subst (IsEarlyMember q) (sym c.test-item.is) (all c.loop-test.test-index c.test-item.result c.loop-test-test.true) in
    let fails = rw c.truth.ensures at (sym c.unwrap_or.ensures ∙ c.if-not-unwrap_or.true) in
    ended_by_member q v m here.1 (subst (λ (n : ℕ). are_bound n (terms_of m) ≡ true) c.if-test-valuation.true here.0) (unknown (are_defined (value_of v) (terms_of m)) (is_true (value_of v) m) fails)
