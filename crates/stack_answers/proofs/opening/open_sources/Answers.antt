use Rattle.std.proofs.Common.{◌∙◌, Ok, sym}
use Rattle.outside.specs.Effects.{world_of}
use Rattle.stack_levels.specs.Opening.{defined_views}
use Rattle.stack_answers.proofs.OpeningLemmas.{loaded_behind}
use Rattle.stack_answers.proofs.opening.open_sources.Goals as goal

pub returns-in_ok-opened-in-Catalogue-clause-opens : goal.returns-in_ok-opened-in-Catalogue-clause-opens
returns-in_ok-opened-in-Catalogue-clause-opens g c = λ t told.
    let printed = g.K.Sink.state c.args.output.now in
    let read = c.in_ok-fields.ensures in
    let loaded = rw c.in-Catalogue.is at read.told t told in
    loaded_behind t (defined_views c.args.definitions.items) c.in-Catalogue.catalogue.databases
    (world_of (g.F.Folders.state c.args.store.now) printed) (world_of (g.F.Folders.state c.load_sources.new.store) printed)
    (world_of (g.F.Folders.state c.open_levels.new.store) (g.K.Sink.state c.open_levels.new.output)) (Ok c.in_ok-opened-in-Catalogue.opened)
    (sym loaded) (read.does printed) (c.in_ok-opened-in-Catalogue.ensures.opens t (read.only_read.tree ∙ told))
