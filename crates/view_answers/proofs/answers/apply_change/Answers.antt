use Rattle.std.proofs.Common.{ap, ◌∙◌}
use Rattle.view_stages.specs.Open.{OpenValue}
use Rattle.opened_view.proofs.AnswerLemmas.{accepted_does, refused_does}
use Rattle.view_answers.proofs.answers.apply_change.Goals as goal

pub returns-in-Ok-clause-does : goal.returns-in-Ok-clause-does
returns-in-Ok-clause-does g c =
    let idle = ap (λ (o : OpenValue). o.session.held) c.view.view_is ∙ c.requires.idle in
    rw (← c.view.view_is) (λ s. accepted_does _ _ _ (record { session = c.view.inside.session; synced = c.view.inside.synced.items; refused = c.view.inside.some_refused; broken = c.view.inside.broken }) c.args.change.now c.in-Ok.script idle c.in-Ok.ensures.accepted c.in-Ok.ensures.script (c.print_script.ensures.does s))

pub returns-in_ok-fields-in-Err-clause-does : goal.returns-in_ok-fields-in-Err-clause-does
returns-in_ok-fields-in-Err-clause-does g c =
    let idle = ap (λ (o : OpenValue). o.session.held) c.view.view_is ∙ c.requires.idle in
    rw (← c.view.view_is) (λ s. refused_does _ _ _ (record { session = c.view.inside.session; synced = c.view.inside.synced.items; refused = c.view.inside.some_refused; broken = c.view.inside.broken }) c.args.change.now c.in-Err.refused c.in_ok-fields-in-Err.fields idle c.in-Err.ensures.refused c.in_ok-fields-in-Err.ensures (c.refuse.ensures.does s))
