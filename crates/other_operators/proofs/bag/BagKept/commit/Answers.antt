use Rattle.std.proofs.Common.{sym, ◌∙◌, ap, subst, List, Option, ℕ}
use Rattle.std.specs.Prelude.{unwrap_or}
use Rattle.operator_law.specs.declared.delta.Signed.{Signed}
use Rattle.operator_law.specs.Bags.{MovesBag}
use Rattle.other_operators.specs.RowCounts.{BagValue, count_in}
use Rattle.other_operators.proofs.BagWaits.{same_waits}
use Rattle.other_operators.proofs.bag.BagKept.commit.Goals as goal

pub returns-in-Some-clause-moved : goal.returns-in-Some-clause-moved
returns-in-Some-clause-moved c = λ x y h moves few q.
    let w = c.in-Some.waiting in
    let waits = sym c.take.ensures.value ∙ c.in-Some.is in
    let ready = c.self.invariant.ready w waits in
    let same = same_waits c.self.inside.waiting w c.args.ready waits (ap (λ (b : BagValue). b.waiting) c.self.view_is ∙ c.requires) in
    ap (λ (v : Option ℕ). unwrap_or v 0) (c.store_all.ensures q)
    ∙ ready.after x y (λ r. ap (λ (b : BagValue). count_in b r) c.self.view_is ∙ h r) (subst (λ (ms : List Signed). MovesBag x ms y) same moves) q
