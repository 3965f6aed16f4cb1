use Rattle.outside.proofs.EffectLemmas.{performs_as}
use Rattle.stack_answers.specs.Held.{held_in}
use Rattle.stack_answers.proofs.StackLemmas.{synced_effects}
use Rattle.stack_answers.proofs.open_stack.OpenStack.sync_named.Goals as goal

pub returns : goal.returns
returns g c =
    let inside = c.self.inside in
    rw (← c.self.view_is) (performs_as _ _ _ _ _ (synced_effects inside.levels (held_in inside.draft) inside.some_refused inside.broken c.all.result.now c.all.ensures.levels c.all.ensures.tables) c.sync_folders.ensures)
