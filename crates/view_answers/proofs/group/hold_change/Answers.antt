use Rattle.std.proofs.Common.{is_some, ap, ◌∙◌}
use Rattle.view_stages.specs.Open.{OpenValue}
use Rattle.opened_view.proofs.AnswerLemmas.{held_does, unheld_does}
use Rattle.view_answers.proofs.group.hold_change.Goals as goal

pub returns-in-Ok-clause-does : goal.returns-in-Ok-clause-does
returns-in-Ok-clause-does g c =
    let inside = ap (λ (o : OpenValue). is_some o.session.held) c.view.view_is ∙ c.requires.inside in
    rw (← c.view.view_is) (λ s. held_does _ _ _ (record { session = c.view.inside.session; synced = c.view.inside.synced.items; refused = c.view.inside.some_refused; broken = c.view.inside.broken }) c.args.change.now inside c.in-Ok.ensures.accepted (c.print_held.ensures.does s))

pub returns-in_ok-fields-in-Err-clause-does : goal.returns-in_ok-fields-in-Err-clause-does
returns-in_ok-fields-in-Err-clause-does g c = rw (← c.view.view_is) (λ s. unheld_does _ _ _ (record { session = c.view.inside.session; synced = c.view.inside.synced.items; refused = c.view.inside.some_refused; broken = c.view.inside.broken }) c.args.change.now c.in-Err.refused c.in_ok-fields-in-Err.fields c.in-Err.ensures.refused c.in_ok-fields-in-Err.ensures (c.refuse.ensures.does s))
