use Rattle.std.proofs.Common.{Ok}
use Rattle.outside.specs.Effects.{world_of}
use Rattle.stack_levels.specs.Opening.{defined_views}
use Rattle.stack_answers.proofs.OpeningLemmas.{distinct_behind, twice_ended}
use Rattle.stack_answers.proofs.opening.open_views.Goals as goal

pub returns-in_ok-refuse-in-Some-clause-opens : goal.returns-in_ok-refuse-in-Some-clause-opens
returns-in_ok-refuse-in-Some-clause-opens g c = λ t told.
    twice_ended t (defined_views c.args.definitions.items) _ c.in-Some.db c.in_ok-fields-in-Some.fields (world_of (g.F.Folders.state c.args.store.now) (g.K.Sink.state c.args.output.now))
    (world_of (g.F.Folders.state c.args.store.now) (g.K.Sink.state c.refuse.new.output)) (rw (c.in-Some.is, c.deref.ensures.value) at c.in_ok-db.ensures) c.in_ok-fields-in-Some.ensures (c.in_ok-refuse-in-Some.ensures.does _)

pub returns-in_ok-opened-in-None-clause-opens : goal.returns-in_ok-opened-in-None-clause-opens
returns-in_ok-opened-in-None-clause-opens g c = λ t told.
    distinct_behind t (defined_views c.args.definitions.items) _ (world_of (g.F.Folders.state c.args.store.now) (g.K.Sink.state c.args.output.now))
    (world_of (g.F.Folders.state c.open_sources.new.store) (g.K.Sink.state c.open_sources.new.output)) (Ok c.in_ok-opened-in-None.opened) (rw (c.in-None.is, c.deref.ensures.value) at c.in_ok-db.ensures) (c.in_ok-opened-in-None.ensures.opens t told)
