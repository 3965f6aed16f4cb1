use Rattle.std.proofs.Common.{◌∙◌, ap}
use Rattle.outside.proofs.EffectLemmas.{performs_as}
use Rattle.view_session.specs.Named.{Names}
use Rattle.stack_answers.specs.Held.{held_in}
use Rattle.stack_answers.proofs.StackLemmas.{saves}
use Rattle.stack_answers.proofs.open_stack.OpenStack.save_named.Goals as goal

pub returns : goal.returns
returns g c =
    let inside = c.self.inside in
    let names = c.lowest-lowest.ensures.names in
    rw (← c.self.view_is) (performs_as _ _ _ _ _ (saves inside.levels (held_in inside.draft) inside.some_refused inside.broken _ _ _ (c.catalogue.ensures ∙ c.lowest-lowest.ensures.catalogue)
    (c.changed_databases.ensures.databases ∙ ap (λ (n : Names). n.databases) names) (c.changed_relations.ensures.relations ∙ ap (λ (n : Names). n.relations) names)) c.save_changed.ensures.performs)
