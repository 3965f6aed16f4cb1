use Rattle.opened_view.proofs.AnswerLemmas.{made_does, stopped_does}
use Rattle.view_answers.proofs.group.make_group.Goals as goal

pub returns-in-Ok-clause-does : goal.returns-in-Ok-clause-does
returns-in-Ok-clause-does g c = rw (← c.view.view_is) (λ s. made_does _ _ _ (record { session = c.view.inside.session; synced = c.view.inside.synced.items; refused = c.view.inside.some_refused; broken = c.view.inside.broken }) c.in-Ok.script c.in-Ok.ensures.allowed c.in-Ok.ensures.script (c.print_script.ensures.does s))

pub returns-in_ok-fields-in-Err-clause-does : goal.returns-in_ok-fields-in-Err-clause-does
returns-in_ok-fields-in-Err-clause-does g c = rw (← c.view.view_is) (λ s. stopped_does _ _ _ (record { session = c.view.inside.session; synced = c.view.inside.synced.items; refused = c.view.inside.some_refused; broken = c.view.inside.broken }) c.in-Err.fault c.in_ok-fields-in-Err.fields c.in-Err.ensures.refused c.in_ok-fields-in-Err.ensures (c.refuse_group.ensures.does s))
