use Rattle.std.proofs.Common.{◌∙◌, []}
use Rattle.std.specs.Prelude.{unwrap_or}
use Rattle.stack_answers.proofs.AnswerLemmas.{made_does, stopped_does}
use Rattle.stack_answers.proofs.open_stack.OpenStack.make_group.Goals as goal

pub returns-in-Ok-clause-does : goal.returns-in-Ok-clause-does
returns-in-Ok-clause-does g c =
    let gs = c.changes.ensures ∙ c.close-draft.ensures.changes in
    let took = rw gs at c.in-Ok.ensures in
    λ s. made_does _ _ _ c.args.self.now c.close-draft.new.self (unwrap_or c.args.self.now.held []) c.in-Ok.all.items c.close-draft.ensures.stack took.unrefused took.lines (c.print_scripts.ensures.does s)

pub returns-in_ok-refusal-in-Err-clause-does : goal.returns-in_ok-refusal-in-Err-clause-does
returns-in_ok-refusal-in-Err-clause-does g c =
    let gs = c.changes.ensures ∙ c.close-draft.ensures.changes in
    let refused = rw gs at c.in-Err.ensures in
    λ s. stopped_does _ _ _ c.args.self.now c.close-draft.new.self (unwrap_or c.args.self.now.held []) c.in-Err.refused c.in_ok-refusal-in-Err.refusal c.close-draft.ensures.stack refused.refused c.in_ok-refusal-in-Err.ensures (c.give_up_at.ensures.does s)
