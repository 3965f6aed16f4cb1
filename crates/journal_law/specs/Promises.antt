-- What a user relies on of a view with a journal.
use Rattle.std.specs.Prelude.{◌≡◌, ◌⊎◌, ℕ, true, List, [], ◌∷◌, ◌++◌, Option, None, Some, Ok}
use Rattle.std.specs.Option.{option_map_or}
use Rattle.tab_lines.specs.Lines.{whole_lines}
use Rattle.outside.specs.Tree.{Tree}
use Rattle.outside.specs.Effects.{World, contents}
use Rattle.schema_model.specs.Catalogue.{CatalogueValue}
use Rattle.schema_model.specs.Changes.{after_all}
use Rattle.source_law.specs.Synced.{unsaved}
use Rattle.course.specs.Answering.{Continues, follow}
use Rattle.course.specs.Keeping.{Entry, noted}
use Rattle.change_journal.specs.Spelled.{Group}
use Rattle.change_journal.specs.Entries.{entries}
use Rattle.change_journal.specs.Lines.{lines_in, read_lines}
use Rattle.journal_log.specs.Replay.{Replay, replayed}
use Rattle.journal_log.specs.Room.{groups_of, lacks_room}
use Rattle.course.specs.declared.exit.Status.{Status}
use Rattle.course.specs.Course.{verdict_status}
use Rattle.view_stages.specs.Open.{OpenValue, just_opened}
use Rattle.view_stages.specs.Stages.{DefinitionOrRefusal, Accepted, loaded_or_refused, refusal_of}
use Rattle.opened_view.specs.Answers.{Answer, answers_by, last_answer, end_view, syncing_view}
use Rattle.upkeep_law.specs.Lists.{effects_by, view_after, last_shown}
use Rattle.upkeep_law.specs.Promises.{IsUpheld}
use Rattle.journal_answers.specs.declared.view.JournalView.{JournalView}
use Rattle.journal_answers.specs.Answers.{answer, made, step, note, finish, ended_at}

-- a catalogue after groups of changes, one after another
abbrev pub after_groups : CatalogueValue → List Group → CatalogueValue
after_groups c [] = c
after_groups c (group ∷ groups) = after_groups (after_all c group) groups

-- a definition and the sources were accepted; the bytes of the journal hold groups that are made over them one after another, and the view is not refused over the catalogue after them
pub record IsReplayed (d : DefinitionOrRefusal) (t : Tree) (held : List ℕ) : Type 0 where
  pub accepted : Accepted
  pub loaded : CatalogueValue
  pub replay : Replay
  pub groups : List Group
  pub defined : d ≡ Ok accepted
  pub loads : loaded_or_refused t ≡ Ok loaded
  pub replays : replayed loaded held ≡ Ok replay
  pub holds : entries held ≡ Ok groups
  pub catalogue : replay.catalogue ≡ after_groups loaded groups
  pub unrefused : refusal_of replay.catalogue accepted.query ≡ None

-- the view over the catalogue after the journal, and with the place at which the journal ends
abbrev pub view_at_first : {d : DefinitionOrRefusal} {t : Tree} {held : List ℕ} → IsReplayed d t held → OpenValue
view_at_first r = just_opened r.accepted.query r.replay.catalogue

abbrev pub journal_at_first : {d : DefinitionOrRefusal} {t : Tree} {held : List ℕ} → IsReplayed d t held → JournalView
journal_at_first r = ended_at r.replay.end (view_at_first r)

-- the answers to lines, each by the view behind those before it; and the groups of changes that they make, in order
abbrev pub answers_to : OpenValue → List (List ℕ) → List Answer
answers_to o lines = answers_by syncing_view o lines

abbrev pub groups_made : OpenValue → List (List ℕ) → List Group
groups_made o [] = []
groups_made o (line ∷ lines) = groups_of (made o line) ++ groups_made (answer o line).view lines

-- at the end of its input a view refuses an open group, and syncs its files
abbrev pub end_answers : OpenValue → List Answer
end_answers o = option_map_or (λ (a : Answer). a ∷ []) (last_answer o) [] ++ syncing_view (end_view o) ∷ []

abbrev pub view_behind : OpenValue → List (List ℕ) → OpenValue
view_behind o lines = view_after o (answers_to o lines)

abbrev pub all_answers : OpenValue → List (List ℕ) → List Answer
all_answers o lines = answers_to o lines ++ end_answers (view_behind o lines)

-- the replayed catalogue after all changes that lines make
abbrev pub catalogue_behind : {d : DefinitionOrRefusal} {t : Tree} {held : List ℕ} → IsReplayed d t held → List (List ℕ) → CatalogueValue
catalogue_behind r lines = after_groups r.replay.catalogue (groups_made (view_at_first r) lines)

-- lines were answered in turn, just the groups that they make were kept, each as an entry, and they make the catalogue. Behind the opening just these answers were given: the view folder shows a catalogue, and the sources are those of the opening, with all other files and folders
pub record AreJournaled {d : DefinitionOrRefusal} {t : Tree} {held : List ℕ} (r : IsReplayed d t held) (lines : List (List ℕ)) (answers : List Answer) (shown : CatalogueValue) (old new : World) : Type 0 where
  pub last : JournalView
  pub answered : follow step lines (Continues [] (journal_at_first r)) ≡ Continues (effects_by (answers_to (view_at_first r) lines)) last
  pub kept : noted step note lines (Continues [] (journal_at_first r)) ≡ lines_in (groups_made (view_at_first r) lines)
  pub catalogue : last.view.session.catalogue ≡ catalogue_behind r lines
  pub upheld : IsUpheld t r.accepted.query r.replay.catalogue answers shown (unsaved r.loaded) old new
  pub sources : loaded_or_refused upheld.tree ≡ Ok r.loaded

-- so it was over lines that were answered, and nothing else was done: the view folder shows the catalogue at the last sync
abbrev pub AreAnswered : {d : DefinitionOrRefusal} {t : Tree} {held : List ℕ} → IsReplayed d t held → List (List ℕ) → World → World → Type 0
AreAnswered r lines old new =
    let o : OpenValue = view_at_first r in
    AreJournaled r lines (answers_to o lines) (last_shown o o.session.catalogue (answers_to o lines)) old new

-- a view with a journal, which holds these bytes at first, was kept up to date: each line of the input was answered, and so was its end; the view folder shows the replayed catalogue after all changes that were kept
pub record IsJournaled (d : DefinitionOrRefusal) (t : Tree) (held : List ℕ) (lines : List (List ℕ)) (old new : World) (s : Status) : Type 0 where
  pub replayed : IsReplayed d t held
  pub done : AreJournaled replayed lines (all_answers (view_at_first replayed) lines) (catalogue_behind replayed lines) old new
  pub status : s ≡ verdict_status (finish done.last).status

-- the input gave out: each whole line of the bytes taken was answered
pub record IsJournalCutOff (d : DefinitionOrRefusal) (t : Tree) (held : List ℕ) (bytes : List ℕ) (rest : Option (List ℕ)) (old new : World) : Type 0 where
  pub replayed : IsReplayed d t held
  pub taken : List ℕ
  pub left : List ℕ
  pub split : bytes ≡ taken ++ left
  pub remains : rest ≡ Some left
  pub done : AreAnswered replayed (whole_lines taken) old new

-- the run ended at a line: each line before it was answered
pub record IsJournalStopped (d : DefinitionOrRefusal) (t : Tree) (held : List ℕ) (lines : List (List ℕ)) (old new : World) : Type 0 where
  pub replayed : IsReplayed d t held
  pub before : List (List ℕ)
  pub line : List ℕ
  pub more : List (List ℕ)
  pub are : lines ≡ before ++ line ∷ more
  pub done : AreAnswered replayed before old new

-- the disk failed: in the opening, and nothing was done, or at a line
abbrev pub IsJournalHeldUp : DefinitionOrRefusal → Tree → List ℕ → List (List ℕ) → World → World → Type 0
IsJournalHeldUp d t held lines old new = (contents new ≡ contents old) ⊎ IsJournalStopped d t held lines old new

-- the journal is full: it has no room for the changes that a line makes
pub record IsJournalFull (d : DefinitionOrRefusal) (t : Tree) (held : List ℕ) (lines : List (List ℕ)) (old new : World) : Type 0 where
  pub stopped : IsJournalStopped d t held lines old new
  pub full : lacks_room stopped.done.last.journal.end (made stopped.done.last.view stopped.line) ≡ true

-- a journal of these bytes holds the entries es and those of some first lines of a run; and over the same sources it is replayed to the catalogue behind these lines, and ends where the journal of the run did, so that the view is opened over just that
pub record OpensAgain {d : DefinitionOrRefusal} {t : Tree} {held : List ℕ} (r : IsReplayed d t held) (es : List Entry) (lines : List (List ℕ)) (image : List ℕ) : Type 0 where
  pub before : List (List ℕ)
  pub later : List (List ℕ)
  pub are : lines ≡ before ++ later
  pub last : JournalView
  pub answered : follow step before (Continues [] (journal_at_first r)) ≡ Continues (effects_by (answers_to (view_at_first r) before)) last
  pub holds : read_lines (entries image) ≡ Some (es ++ noted step note before (Continues [] (journal_at_first r)))
  pub again : (u : Tree) → loaded_or_refused u ≡ Ok r.loaded → (x : IsReplayed d u image) × (journal_at_first x ≡ ended_at last.journal.end (just_opened r.accepted.query last.view.session.catalogue))
