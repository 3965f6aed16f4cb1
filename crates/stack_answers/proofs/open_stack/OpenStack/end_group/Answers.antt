use Rattle.stack_answers.proofs.AnswerLemmas.{ends_does}
use Rattle.stack_answers.proofs.open_stack.OpenStack.end_group.Goals as goal

pub returns-in_ok-fields-in-Some-clause-does : goal.returns-in_ok-fields-in-Some-clause-does
returns-in_ok-fields-in-Some-clause-does g c =
    λ s. ends_does _ _ _ c.args.self.now c.held.result c.in-Some.changes c.in_ok-fields-in-Some.fields c.held.ensures c.in-Some.is c.in_ok-fields-in-Some.ensures (c.give_up.ensures.does s)
