use Rattle.std.proofs.Common.{refl, sym, subst}
use Rattle.outside.specs.Effects.{world_of}
use Rattle.view_def.specs.Query.{query_of}
use Rattle.opened_view.specs.Steps.{Begins}
use Rattle.journal_answers.specs.declared.view.JournalView.{JournalView}
use Rattle.journal_answers.specs.Opening.{with_replay}
use Rattle.journal_answers.proofs.OpeningLemmas.{filled}
use Rattle.journal_answers.proofs.opening.open_replayed.Goals as goal

pub returns-in-Ok-clause-opens : goal.returns-in-Ok-clause-opens
returns-in-Ok-clause-opens g c = λ t told is_open.
    let q = query_of c.args.definition.view.value in
    let old = world_of (g.F.Folders.state c.args.store.now) (g.K.Sink.state c.args.output.now) in
    let new = world_of (g.F.Folders.state c.fill_folder.new.store) (g.K.Sink.state c.fill_folder.new.output) in
    let views = rw c.in-View.is at c.in_ok-fields.ensures.views in
    subst (λ (f : JournalView). Begins (with_replay t q (record { catalogue = c.args.catalogue.databases; end = c.args.journal.end })) old new f) (sym c.of-opened.ensures)
    (filled t q c.args.catalogue.databases c.args.journal.end old new c.in-View.view c.args.journal views refl is_open (c.in-Ok.ensures.does t told))
