use Rattle.stack_answers.proofs.AnswerLemmas.{ended_does}
use Rattle.stack_answers.proofs.open_stack.OpenStack.end_input.Goals as goal

pub returns-clause-does : goal.returns-clause-does
returns-clause-does g c = ended_does _ _ _ c.args.self.now _ _ (c.in_ok-end_group.ensures.does _) c.in_ok-end_group.ensures.stack c.write_changed.ensures.does
