use Rattle.opened_view.proofs.AnswerLemmas.{refusing_does}
use Rattle.view_answers.proofs.group.refuse_inside.Goals as goal

pub returns-clause-does : goal.returns-clause-does
returns-clause-does g c = λ s. refusing_does _ _ _ c.args.view.now _ c.in_ok-fields.fields c.in_ok-fields.ensures (c.refuse.ensures.does s)
