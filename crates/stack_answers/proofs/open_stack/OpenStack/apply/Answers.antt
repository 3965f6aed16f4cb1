use Rattle.std.proofs.Common.{◌≡◌, ◌∷◌, [], rules}
use Rattle.stack_answers.proofs.AnswerLemmas.{taken_does, refused_does}
use Rattle.stack_answers.proofs.open_stack.OpenStack.apply.Goals as goal

pub returns-in-Ok-clause-does : goal.returns-in-Ok-clause-does
returns-in-Ok-clause-does g c =
    let alone : c.from_ref.result.now ≡ c.args.change.now ∷ [] = search rules in
    let took = rw alone at c.in-Ok.ensures in
    λ s. taken_does _ _ _ c.args.self.now c.args.change.now c.in-Ok.all.items c.requires.closed took.accepted took.unrefused took.lines (c.print_scripts.ensures.does s)

pub returns-in_ok-refusal-in-Err-clause-does : goal.returns-in_ok-refusal-in-Err-clause-does
returns-in_ok-refusal-in-Err-clause-does g c =
    let alone : c.from_ref.result.now ≡ c.args.change.now ∷ [] = search rules in
    let refused = rw alone at c.in-Err.ensures in
    λ s. refused_does _ _ _ c.args.self.now _ c.args.change.now c.in-Err.refused c.in_ok-refusal-in-Err.refusal refused.same c.requires.closed refused.refused c.in_ok-refusal-in-Err.ensures (c.refuse_at.ensures.does s)
