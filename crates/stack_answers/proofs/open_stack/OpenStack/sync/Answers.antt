use Rattle.stack_answers.specs.Held.{held_in}
use Rattle.stack_answers.proofs.StackLemmas.{synced_state, stands_still}
use Rattle.stack_answers.proofs.open_stack.OpenStack.sync.Goals as goal

pub invariant_of-self : goal.invariant_of-self
invariant_of-self g c = stands_still c.self.inside.levels _ c.self.inside.draft c.self.invariant c.note_synced.ensures.levels c.note_synced.ensures.fresh.catalogue

pub returns-clause-stack : goal.returns-clause-stack
returns-clause-stack g c = rw (← c.self.view_is) (synced_state c.self.inside.levels _ (held_in c.self.inside.draft) c.self.inside.some_refused c.self.inside.broken c.note_synced.ensures.fresh)
