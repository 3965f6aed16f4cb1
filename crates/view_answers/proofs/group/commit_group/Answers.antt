use Rattle.std.proofs.Common.{◌≡◌, ◌≢◌, arith, ap, ◌∙◌}
use Rattle.ss_print.specs.Fields.{group_broken_fields}
use Rattle.view_stages.specs.Open.{OpenValue}
use Rattle.opened_view.proofs.AnswerLemmas.{unbroken_does, broken_does}
use Rattle.view_answers.proofs.group.commit_group.Goals as goal

pub returns-then-view-eq0-clause-does : goal.returns-then-view-eq0-clause-does
returns-then-view-eq0-clause-does g c =
    let same : c.view.inside.broken ≡ c.args.view.now.broken = ap (λ (o : OpenValue). o.broken) c.view.view_is in
    let none : c.args.view.now.broken ≡ 0 = omega (arith, same) in
    λ s. unbroken_does _ _ _ c.args.view.now c.args.view.now.broken none (c.make_group.ensures.does s)

pub returns-clause-does : goal.returns-clause-does
returns-clause-does g c =
    let same : c.view.inside.broken ≡ c.args.view.now.broken = ap (λ (o : OpenValue). o.broken) c.view.view_is in
    let some : c.args.view.now.broken ≢ 0 = λ e. absurd (omega (arith, e, same)) in
    λ s. broken_does _ _ _ c.args.view.now c.args.view.now.broken c.in_ok-fields.fields some (c.in_ok-fields.ensures ∙ ap group_broken_fields same) (c.give_up.ensures.does s)
