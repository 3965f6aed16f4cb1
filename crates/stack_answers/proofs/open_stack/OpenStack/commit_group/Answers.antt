use Rattle.std.proofs.Common.{◌≡◌, ◌≢◌, arith, ap, ◌∙◌}
use Rattle.ss_print.specs.Fields.{group_broken_fields}
use Rattle.stack_answers.specs.Stack.{StackState}
use Rattle.stack_answers.proofs.AnswerLemmas.{unbroken_does, broken_does}
use Rattle.stack_answers.proofs.open_stack.OpenStack.commit_group.Goals as goal

pub returns-then-self-eq0-clause-does : goal.returns-then-self-eq0-clause-does
returns-then-self-eq0-clause-does g c =
    let same : c.self.inside.broken ≡ c.args.self.now.broken = ap (λ (s : StackState). s.broken) c.self.view_is in
    let none : c.args.self.now.broken ≡ 0 = omega (arith, same) in
    λ s. unbroken_does _ _ _ c.args.self.now c.args.self.now.broken none (c.make_group.ensures.does s)

pub returns-clause-does : goal.returns-clause-does
returns-clause-does g c =
    let same : c.self.inside.broken ≡ c.args.self.now.broken = ap (λ (s : StackState). s.broken) c.self.view_is in
    let some : c.args.self.now.broken ≢ 0 = λ e. absurd (omega (arith, e, same)) in
    λ s. broken_does _ _ _ c.args.self.now c.args.self.now.broken c.in_ok-fields.fields some (c.in_ok-fields.ensures ∙ ap group_broken_fields same) (c.give_up.ensures.does s)
