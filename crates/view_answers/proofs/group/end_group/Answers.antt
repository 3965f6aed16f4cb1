use Rattle.std.proofs.Common.{length, ap, ◌∙◌}
use Rattle.std.specs.Prelude.{option_map}
use Rattle.view_stages.specs.Open.{OpenValue}
use Rattle.opened_view.proofs.AnswerLemmas.{ends_does}
use Rattle.view_answers.proofs.group.end_group.Goals as goal

pub returns-in_ok-fields-in-Some-clause-does : goal.returns-in_ok-fields-in-Some-clause-does
returns-in_ok-fields-in-Some-clause-does g c =
    let counted = c.held.ensures ∙ ap (λ (o : OpenValue). option_map length o.session.held) c.view.view_is in
    λ s. ends_does _ _ _ c.args.view.now c.held.result c.in-Some.changes c.in_ok-fields-in-Some.fields counted c.in-Some.is c.in_ok-fields-in-Some.ensures (c.give_up.ensures.does s)
