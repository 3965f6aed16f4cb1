use Rattle.stack_answers.proofs.AnswerLemmas.{held_does, unheld_does}
use Rattle.stack_answers.proofs.open_stack.OpenStack.hold.Goals as goal

pub returns-in-Ok-clause-does : goal.returns-in-Ok-clause-does
returns-in-Ok-clause-does g c = λ s. held_does _ _ _ c.args.self.now c.args.change.now c.requires.inside c.in-Ok.ensures.accepted (c.print_held.ensures.does s)

pub returns-in_ok-fields-in-Err-clause-does : goal.returns-in_ok-fields-in-Err-clause-does
returns-in_ok-fields-in-Err-clause-does g c = λ s. unheld_does _ _ _ c.args.self.now c.args.change.now c.in-Err.refused c.in_ok-fields-in-Err.fields c.in-Err.ensures.refused c.in_ok-fields-in-Err.ensures (c.refuse.ensures.does s)
