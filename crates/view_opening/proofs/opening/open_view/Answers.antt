use Rattle.std.proofs.Common.{◌∙◌, Ok, sym}
use Rattle.outside.specs.Effects.{world_of}
use Rattle.view_def.specs.Query.{query_of}
use Rattle.view_opening.proofs.OpeningLemmas.{opened_behind}
use Rattle.view_opening.proofs.opening.open_view.Goals as goal

pub returns-in_ok-opened-in-Catalogue-clause-opens : goal.returns-in_ok-opened-in-Catalogue-clause-opens
returns-in_ok-opened-in-Catalogue-clause-opens g c = λ t told.
    let printed = g.K.Sink.state c.args.output.now in
    let read = c.in_ok-fields.ensures in
    let told_as = read.told t told in
    let loaded = rw c.in-Catalogue.is at told_as in
    opened_behind t (query_of c.args.definition.view.value) c.in-Catalogue.catalogue.databases
    (world_of (g.F.Folders.state c.args.store.now) printed) (world_of (g.F.Folders.state c.load_sources.new.store) printed)
    (world_of (g.F.Folders.state c.open_session.new.store) (g.K.Sink.state c.open_session.new.output)) (Ok c.in_ok-opened-in-Catalogue.opened)
    (sym loaded) (read.does printed) (c.in_ok-opened-in-Catalogue.ensures.opens t (read.only_read.tree ∙ told))
