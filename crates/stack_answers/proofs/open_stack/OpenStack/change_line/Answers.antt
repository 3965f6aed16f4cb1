use Rattle.stack_answers.proofs.AnswerLemmas.{read_does, unread_does}
use Rattle.stack_answers.proofs.open_stack.OpenStack.change_line.Goals as goal

pub returns-in-Ok-clause-does : goal.returns-in-Ok-clause-does
returns-in-Ok-clause-does g c = λ s. read_does _ _ _ c.args.self.now c.args.row.now c.in-Ok.change c.in-Ok.ensures.answer (c.change.ensures.does s)

pub returns-in_ok-fields-in-Err-clause-does : goal.returns-in_ok-fields-in-Err-clause-does
returns-in_ok-fields-in-Err-clause-does g c = λ s. unread_does _ _ _ c.args.self.now c.args.row.now c.in_ok-fields-in-Err.fields c.in-Err.fault c.in-Err.ensures.answer c.in_ok-fields-in-Err.ensures.some c.in_ok-fields-in-Err.ensures.row (c.refuse.ensures.does s)
