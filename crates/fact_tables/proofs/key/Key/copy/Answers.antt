use Rattle.std.proofs.Common.{◌∙◌, ◌≡◌, ◌++◌, ◌∷◌, ◌+◌, suc, [], take, ap, arith}
use Rattle.fact_tables.proofs.OrderedValues.{one_more}
use Rattle.fact_tables.proofs.key.Key.copy.Goals as goal

pub loop-place-preserved : goal.loop-place-preserved
loop-place-preserved c =
    let row = c.args.self.now in
    let value = c.in_ok-copy_at.field-0 in
    let next : suc c.loop-place.place ≡ c.loop-place.place + 1 = omega arith in
    c.in_ok-push.ensures.items ∙ ap (λ xs. xs ++ value ∷ []) c.loop-place.invariant ∙ one_more row c.loop-place.place value c.in_ok-copy_at.ensures ∙ ap (λ k. take k row) next
