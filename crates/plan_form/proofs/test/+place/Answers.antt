use Rattle.std.proofs.Common.{◌≡◌, ◌≤◌, ◌∙◌, ap, map, length, sym, arith, rules}
use Rattle.std.proofs.lemmas.List.{take_all}
use Rattle.view_def.specs.Conditions.{AnyOf, AllOf, condition_of, conditions_of}
use Rattle.view_def.specs.declared.typed.Cond.{Cond}
use Rattle.view_def.specs.declared.typed.Cond.TheFolds.{the_lemmas}
use Rattle.plan_form.specs.Tests.{cell_for, placed}
use Rattle.plan_form.proofs.Conditions.{placed_members}
use Rattle.plan_form.proofs.test.+place.Goals as goal

pub placed-returns-in_ok-each_placed-in-Any : goal.placed-returns-in_ok-each_placed-in-Any
placed-returns-in_ok-each_placed-in-Any t c =
    let e : condition_of c.args.condition.now ≡ AnyOf (conditions_of (map condition_of c.deref.result.now)) = search (rules, the_lemmas) in
    c.any_of.ensures ∙ ap AnyOf c.in_ok-each_placed-in-Any.ensures ∙ sym (ap (placed (cell_for c.args.decls.now c.args.header.now)) e)

pub placed-returns-in_ok-each_placed-in-All : goal.placed-returns-in_ok-each_placed-in-All
placed-returns-in_ok-each_placed-in-All t c =
    let e : condition_of c.args.condition.now ≡ AllOf (conditions_of (map condition_of c.deref-in-All.result.now)) = search (rules, the_lemmas) in
    c.all_of.ensures ∙ ap AllOf c.in_ok-each_placed-in-All.ensures ∙ sym (ap (placed (cell_for c.args.decls.now c.args.header.now)) e)

pub each_placed-returns : goal.each_placed-returns
each_placed-returns t c =
    let f = cell_for c.args.decls.now c.args.header.now in
    let ms = c.args.members.now in
    let over : length ms ≤ c.loop-member.member-index = omega arith in
    ap conditions_of (c.loop-member.invariant ∙ ap (map (λ (e : Cond). placed f (condition_of e))) (take_all c.loop-member.member-index ms over)) ∙ placed_members f ms
