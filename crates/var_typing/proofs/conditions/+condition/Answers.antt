use Rattle.std.proofs.Common.{◌≡◌, ◌≤◌, ◌∙◌, ap, map, length, List, sym, arith, rules}
use Rattle.std.proofs.lemmas.List.{take_all, drop_all}
use Rattle.std.proofs.lemmas.Result.{err_from_is_err_and}
use Rattle.view_def.specs.Conditions.{AnyOf, AllOf, condition_of, conditions_of}
use Rattle.view_def.specs.RawConditions.{Raw, AnyRaw, AllRaw, raw_of, raws}
use Rattle.view_def.specs.declared.written.RawCond.{RawCond}
use Rattle.view_def.specs.declared.written.RawCond.TheFolds.{the_lemmas}
use Rattle.var_typing.specs.Terms.{terms_fault, terms_in, terms_in_each, typed_condition}
use Rattle.var_typing.proofs.TermLemmas.{typed_members, member_passed, member_refused, member_taken, member_typed}
use Rattle.var_typing.proofs.conditions.+condition.Goals as goal

pub type_condition-returns-in_ok-type_members-in-Any-clause-answer : goal.type_condition-returns-in_ok-type_members-in-Any-clause-answer
type_condition-returns-in_ok-type_members-in-Any-clause-answer t c =
    let ds = c.args.scope.now.decls.now in
    let e : raw_of c.args.condition.now ≡ AnyRaw (raws (map raw_of c.deref.result.now)) = search (rules, the_lemmas) in
    let h = c.in_ok-type_members-in-Any.ensures.answer in
    (ap (λ (r : Raw). terms_fault ds c.args.folds.now.items (terms_in r)) e ∙ h.0, c.any_of.ensures ∙ ap AnyOf h.1 ∙ sym (ap (typed_condition ds) e))

pub type_condition-returns-in_ok-type_members-in-All-clause-answer : goal.type_condition-returns-in_ok-type_members-in-All-clause-answer
type_condition-returns-in_ok-type_members-in-All-clause-answer t c =
    let ds = c.args.scope.now.decls.now in
    let e : raw_of c.args.condition.now ≡ AllRaw (raws (map raw_of c.deref-in-All.result.now)) = search (rules, the_lemmas) in
    let h = c.in_ok-type_members-in-All.ensures.answer in
    (ap (λ (r : Raw). terms_fault ds c.args.folds.now.items (terms_in r)) e ∙ h.0, c.all_of.ensures ∙ ap AllOf h.1 ∙ sym (ap (typed_condition ds) e))

pub type_members-returns-in_err-member-clause-answer : goal.type_members-returns-in_err-member-clause-answer
type_members-returns-in_err-member-clause-answer t c =
    let i = c.loop-member.invariant in
    let p = err_from_is_err_and c.from_residual.result c.from_residual.ensures.1 in
    rw (p.1, p.2) (member_refused c.args.scope.now.decls.now c.loop-member.folds.items c.loop-member.folds.items c.args.members.now c.loop-member.member-index c.member-item.result (omega arith) c.member-item.is _ i.passed c.in_err-member.field-0.0 c.in_err-member.ensures.answer)

pub type_members-loop-member-preserved : goal.type_members-loop-member-preserved
type_members-loop-member-preserved t c =
    let i = c.loop-member.invariant in
    let ds = c.args.scope.now.decls.now in
    let folds = c.loop-member.folds.items in
    let after = c.type_condition.new.folds.items in
    let h = c.in_ok-member.ensures.answer in
    record {
      passed = member_passed ds folds after c.args.members.now c.loop-member.member-index c.member-item.result (omega arith) c.member-item.is _ i.passed h.0 c.in_ok-member.ensures.taken;
      typed = ap (map condition_of) c.in_ok-push.ensures.items ∙ member_typed ds folds after c.args.members.now c.loop-member.member-index c.member-item.result (omega arith) c.member-item.is c.loop-member.typed.items c.in_ok-member.member i.typed h.1;
      taken = member_taken ds folds after c.args.members.now c.loop-member.member-index c.member-item.result (omega arith) c.member-item.is _ i.taken c.in_ok-member.ensures.taken;
    }

pub type_members-returns-clause-answer : goal.type_members-returns-clause-answer
type_members-returns-clause-answer t c =
    let i = c.loop-member.invariant in
    let ds = c.args.scope.now.decls.now in
    let ms = c.args.members.now in
    let over : length ms ≤ c.loop-member.member-index = omega arith in (
      sym i.passed ∙ ap (λ (cs : List RawCond). terms_fault ds c.loop-member.folds.items (terms_in_each (raws (map raw_of cs)))) (drop_all c.loop-member.member-index ms over),
      ap conditions_of (i.typed ∙ ap (map (λ (e : RawCond). typed_condition ds (raw_of e))) (take_all c.loop-member.member-index ms over)) ∙ typed_members ds ms,
    )
