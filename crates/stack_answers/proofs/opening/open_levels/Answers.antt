use Rattle.std.proofs.Common.{Ok}
use Rattle.outside.specs.Effects.{world_of}
use Rattle.stack_levels.specs.Opening.{defined_views}
use Rattle.stack_answers.proofs.OpeningLemmas.{judged_behind}
use Rattle.stack_answers.proofs.opening.open_levels.Goals as goal

pub returns-in_ok-opened-in-Ok-clause-opens : goal.returns-in_ok-opened-in-Ok-clause-opens
returns-in_ok-opened-in-Ok-clause-opens g c = λ t told.
    judged_behind t (defined_views c.args.definitions.items) c.args.catalogue.databases _ _ (world_of (g.F.Folders.state c.args.store.now) (g.K.Sink.state c.args.output.now))
    (world_of (g.F.Folders.state c.fill_levels.new.store) (g.K.Sink.state c.fill_levels.new.output)) (Ok c.in_ok-opened-in-Ok.opened)
    c.in-Ok.ensures.unrefused (c.in_ok-opened-in-Ok.ensures.opens t c.args.catalogue.databases (defined_views c.args.definitions.items) told c.in-Ok.ensures.fresh)
