use Rattle.std.proofs.Common.{◌≡◌, ◌+◌, ◌-◌, ◌∙◌, sym, ap, arith, get_or}
use Rattle.std.specs.Ordering.{is_lt}
use Rattle.ss_text.specs.Texts.{text_cmp}
use Rattle.ss_text.proofs.KeyLemmas.{text_order}
use Rattle.view_folder.proofs.RecordLemmas.{adjacent_ascends, not_adjacent}
use Rattle.view_folder.proofs.records.ascend.Goals as goal

pub returns : goal.returns
returns c = sym (adjacent_ascends text_cmp text_order.total c.args.texts.now (λ k d lt. c.loop-place.invariant k d (omega (arith, lt, c.loop-place-test.false))))

pub returns-then-not-is_lt : goal.returns-then-not-is_lt
returns-then-not-is_lt c =
    let at = c.loop-place.place in
    let first = c.index-texts-place.result in
    let next = c.index-texts-place-in-loop-place.result in
    let behind : at - 1 + 1 ≡ at = omega (arith, c.loop-place.auto.place) in
    sym (not_adjacent text_cmp c.args.texts.now (at - 1) first next (omega (arith, c.loop-place.auto.place, c.loop-place-test.true)) c.index-texts-place.is (c.index-texts-place-in-loop-place.is ∙ ap (λ i. get_or c.args.texts.now i next) (sym behind))
    (ap is_lt (sym c.cmp.ensures) ∙ sym c.is_lt.ensures ∙ c.if-not-is_lt.true))
