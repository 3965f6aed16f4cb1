use Rattle.opened_view.proofs.AnswerLemmas.{read_does, unread_does}
use Rattle.view_answers.proofs.answers.answer_change_line.Goals as goal

pub returns-in-Ok-clause-does : goal.returns-in-Ok-clause-does
returns-in-Ok-clause-does g c = λ s. read_does _ _ _ c.args.view.now c.args.row.now c.in-Ok.change c.in-Ok.ensures.answer (c.answer_change.ensures.does s)

pub returns-in_ok-fields-in-Err-clause-does : goal.returns-in_ok-fields-in-Err-clause-does
returns-in_ok-fields-in-Err-clause-does g c = λ s. unread_does _ _ _ c.args.view.now c.args.row.now c.in_ok-fields-in-Err.fields c.in-Err.fault c.in-Err.ensures.answer c.in_ok-fields-in-Err.ensures.some c.in_ok-fields-in-Err.ensures.row (c.refuse.ensures.does s)
