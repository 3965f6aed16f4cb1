use Rattle.std.proofs.Common.{◌≡◌, ◌∙◌, List, Some, option_map, sym, subst, ap}
use Rattle.std.specs.List.Sorted.{IsStrictlySortedBy}
use Rattle.ss_text.specs.Texts.{Text, text_eq, text_cmp}
use Rattle.indexmap.specs.IndexMap.{get}
use Rattle.operator_law.specs.declared.delta.Signed.{Signed}
use Rattle.operator_law.specs.Bags.{MovesBag}
use Rattle.split_op.specs.Splits.{SplitValue, KeepsSplit, CanKeepSplit}
use Rattle.split_op.proofs.Grouped.{groups_ascend}
use Rattle.split_op.proofs.SplitKeeps.{kept_after}
use Rattle.split_op.proofs.split.SplitKept.commit.Goals as goal

pub commit_stages-requires-clause-ready : goal.commit_stages-requires-clause-ready
commit_stages-requires-clause-ready g c =
    let ready = c.self.invariant.ready c.in-Some.waiting (sym c.take.ensures.value ∙ c.in-Some.is) in
    ((g.I.TableOperator.table c.self.inside.pattern).shape, ready.ready.each)

pub commit_stages-requires-clause-ascend : goal.commit_stages-requires-clause-ascend
commit_stages-requires-clause-ascend g c =
    let ready = c.self.invariant.ready c.in-Some.waiting (sym c.take.ensures.value ∙ c.in-Some.is) in
    subst (λ (ls : List Text). IsStrictlySortedBy text_cmp ls) (sym ready.ready.labels) (groups_ascend c.in-Some.waiting.of.value c.in-Some.waiting.of.value)

pub returns-in-Some-clause-moved : goal.returns-in-Some-clause-moved
returns-in-Some-clause-moved g c = λ x y k moves can.
    let table = g.I.TableOperator.table in
    let w = c.in-Some.waiting in
    let shape = c.self.inside.shape in
    let form = (table c.self.inside.pattern).shape in
    let ready = c.self.invariant.ready w (sym c.take.ensures.value ∙ c.in-Some.is) in
    let kept = subst (λ (u : SplitValue _). KeepsSplit table u x) (sym c.self.view_is) k in
    let fit = subst (λ (u : SplitValue _). CanKeepSplit u.shape y) (sym c.self.view_is) can in
    let waits : Some w.of.value ≡ Some c.args.ready = sym (ap (option_map (λ v. v.of.value)) (sym c.take.ensures.value ∙ c.in-Some.is)) ∙ ap (λ (u : SplitValue _). u.waiting) c.self.view_is ∙ c.requires in
    let same : w.of.value ≡ c.args.ready = cc in
    kept_after table shape g.I.Kept.waiting g.I.Kept.made_for form c.self.invariant.columns (get text_eq c.self.inside.parts) (get text_eq c.commit_stages.new.parts) w.of.value w.stages.items ready.ready (c.commit_stages.ensures.moved form ready.ready.each) c.commit_stages.ensures.others
    x y kept (subst (λ (ns : List Signed). MovesBag x ns y) (sym same) moves) fit
