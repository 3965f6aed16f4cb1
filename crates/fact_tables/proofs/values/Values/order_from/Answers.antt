use Rattle.std.proofs.Common.{◌∙◌, ◌≡◌, sym, arith}
use Rattle.std.specs.declared.cmp.Ordering.TheVariants.{Equal}
use Rattle.ss_text.specs.Texts.{text_cmp}
use Rattle.fact_tables.proofs.OrderedValues.{both_there, same_there, none_there, one_there, other_there, decided, beyond, not_beyond}
use Rattle.fact_tables.proofs.values.Values.order_from.Goals as goal

pub returns-in_default : goal.returns-in_default
returns-in_default c = sym (one_there c.args.self.now c.args.others.now c.loop-place.place _ c.in_default.ensures c.in_default.ensures') ∙ c.loop-place.invariant

pub returns-in_default-2 : goal.returns-in_default-2
returns-in_default-2 c = absurd (not_beyond c.args.self.now c.loop-place.place (omega (arith, c.loop-place-test.true, c.count-count.ensures)) c.in_default.ensures)

pub loop-place-preserved : goal.loop-place-preserved
loop-place-preserved c =
    let same : text_cmp c.in-Some-Some.value.now c.in-Some-Some.other.now ≡ Equal = sym c.cmp.ensures ∙ c.in-Equal.is in
    same_there c.args.self.now c.args.others.now c.loop-place.place _ _ c.in-Some-Some.ensures c.in-Some-Some.ensures' same ∙ c.loop-place.invariant

pub returns-in_default-cmp : goal.returns-in_default-cmp
returns-in_default-cmp c =
    decided _ _ _ c.cmp.ensures c.in_default-cmp.not-Equal
    ∙ sym (both_there c.args.self.now c.args.others.now c.loop-place.place c.in-Some-Some.value.now c.in-Some-Some.other.now c.in-Some-Some.ensures c.in-Some-Some.ensures')
    ∙ c.loop-place.invariant

pub returns-in-Some : goal.returns-in-Some
returns-in-Some c =
    let ended = beyond c.args.self.now c.loop-place.place (omega (arith, c.loop-place-test.false, c.count-count.ensures)) in
    sym (other_there c.args.self.now c.args.others.now c.loop-place.place _ ended c.in-Some.ensures) ∙ c.loop-place.invariant

pub returns-in-None : goal.returns-in-None
returns-in-None c =
    let ended = beyond c.args.self.now c.loop-place.place (omega (arith, c.loop-place-test.false, c.count-count.ensures)) in
    sym (none_there c.args.self.now c.args.others.now c.loop-place.place ended c.in-None.ensures) ∙ c.loop-place.invariant
