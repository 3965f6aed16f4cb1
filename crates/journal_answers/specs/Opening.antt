-- What is read and written when a view is opened with a journal.
use Rattle.std.specs.Prelude.{ℕ, List, [], ◌∷◌, Result, Ok, Err}
use Rattle.ss_text.specs.Texts.{Row}
use Rattle.outside.specs.Tree.{Tree}
use Rattle.schema_model.specs.Catalogue.{CatalogueValue}
use Rattle.view_def.specs.Query.{Query}
use Rattle.course.specs.declared.status.Verdict.{Verdict}
use Rattle.course.specs.declared.status.Verdict.TheVariants as verdict
use Rattle.course.specs.Answering.{Reply, Finishes}
use Rattle.journal_log.specs.declared.fault.JournalRefusal.{JournalRefusal}
use Rattle.journal_log.specs.Replay.{Replay, replayed}
use Rattle.ss_print.specs.Printing.{refuses}
use Rattle.view_stages.specs.Stages.{DefinitionOrRefusal, loaded_or_refused, refusal_of}
use Rattle.view_stages.specs.Opening.{with_view}
use Rattle.opened_view.specs.Steps.{starting}
use Rattle.journal_answers.specs.declared.view.JournalView.{JournalView}
use Rattle.journal_answers.specs.Answers.{ended_at}
use Rattle.journal_answers.specs.Fields.{journal_fields}

abbrev pub halts : Row → Verdict → Reply JournalView
halts fields v = Finishes (refuses fields ∷ []) v

-- the view over the catalogue after the journal is refused, or it is opened
abbrev pub with_replay : Tree → Query → Replay → Reply JournalView
with_replay t q r = starting (ended_at r.end) (with_view t q r.catalogue (refusal_of r.catalogue q))

-- the journal is refused, or the view is judged over the catalogue after it
abbrev pub with_journal : Tree → Query → Result Replay JournalRefusal → Reply JournalView
with_journal t q (Err f) = halts (journal_fields f) verdict.BadCatalogue
with_journal t q (Ok r) = with_replay t q r

-- the catalogue is refused, or the journal of these bytes is replayed over it
abbrev pub with_catalogue : Tree → List ℕ → Query → Result CatalogueValue Row → Reply JournalView
with_catalogue t bytes q (Err fields) = halts fields verdict.BadCatalogue
with_catalogue t bytes q (Ok c) = with_journal t q (replayed c bytes)

-- the definition is refused, or the catalogue is loaded
abbrev pub opening : Tree → List ℕ → DefinitionOrRefusal → Reply JournalView
opening t bytes (Err fields) = halts fields verdict.BadDefinition
opening t bytes (Ok a) = with_catalogue t bytes a.query (loaded_or_refused t)
