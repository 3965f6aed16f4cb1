use Rattle.opened_view.proofs.AnswerLemmas.{ended_does}
use Rattle.view_answers.proofs.answers.end_input.Goals as goal

pub returns-clause-does : goal.returns-clause-does
returns-clause-does g c = ended_does _ _ _ c.args.view.now _ _ (c.in_ok-end_group.ensures.does _) c.in_ok-end_group.ensures.view c.write_changed.ensures.does
