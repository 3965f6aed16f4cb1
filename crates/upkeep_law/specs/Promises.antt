-- What a user relies on of a view that is kept up to date.
use Rattle.std.specs.Prelude.{◌≡◌, ℕ, ◌+◌, true, List, [], ◌∷◌, ◌++◌, Option, Some, Ok}
use Rattle.std.specs.Option.{option_map_or}
use Rattle.tab_lines.specs.Lines.{whole_lines}
use Rattle.outside.specs.Counts.{risen}
use Rattle.outside.specs.Streams.{with_bytes}
use Rattle.outside.specs.Tree.{Tree, files_of}
use Rattle.outside.specs.Effects.{Effect, Print, World}
use Rattle.schema_model.specs.Catalogue.{CatalogueValue}
use Rattle.view_def.specs.Query.{Query}
use Rattle.view_folder.specs.Files.{view_folder}
use Rattle.view_folder.specs.Sync.{Holds}
use Rattle.flow_law.specs.declared.line.TableLine.{TableLine}
use Rattle.flow_law.specs.Tables.{TablesValue}
use Rattle.flow_law.specs.declared.shape.Shape.{Shape}
use Rattle.change_script.specs.Applied.{applied}
use Rattle.view_meaning.specs.Meaning.{shape_of}
use Rattle.view_session.specs.Session.{tables_of}
use Rattle.source_law.specs.Counted.{tree_after}
use Rattle.source_law.specs.Synced.{Synced, unsaved, synced, SourcesHold}
use Rattle.flow_law.specs.Lines.{after_lines, fit_lines}
use Rattle.course.specs.Answering.{Reply, Continues, Finishes, follow}
use Rattle.course.specs.declared.exit.Status.{Status}
use Rattle.course.specs.Course.{verdict_status}
use Rattle.view_stages.specs.Open.{OpenValue, just_opened}
use Rattle.view_stages.specs.Opening.{opening_effects}
use Rattle.view_stages.specs.Places.{Exempt, CsvFiles, OthersStay, sources_of}
use Rattle.view_stages.specs.Stages.{DefinitionOrRefusal, files_of_view}
use Rattle.view_stages.specs.Opened.{IsOpened, view_at_first, opening_writes}
use Rattle.opened_view.specs.Answers.{Said, Scripts, Answer, answers_to, last_answer, end_view, syncing, step, finish}
use Rattle.upkeep_law.specs.Lists.{effects_by, view_after, writes_by, last_synced}

-- what effects print, one after the other
abbrev pub printed_by : List Effect → List ℕ
printed_by [] = []
printed_by (Print bytes ∷ es) = bytes ++ printed_by es
printed_by (e ∷ es) = printed_by es

-- the effects of the opening of a view over a catalogue, and of all answers behind it
abbrev pub opening_of : Tree → Query → CatalogueValue → List Effect
opening_of t q c = opening_effects (view_folder q.view_db) (files_of_view c q) (files_of t (view_folder q.view_db))

abbrev pub effects_so_far : Tree → Query → CatalogueValue → List Answer → List Effect
effects_so_far t q c answers = opening_of t q c ++ effects_by answers

-- how many files and folders all that writes, makes or removes
abbrev pub writes_so_far : Tree → Query → CatalogueValue → List Answer → ℕ
writes_so_far t q c answers = opening_writes t c q + writes_by (tree_after (opening_of t q c) t) answers

-- what is said of the tables takes those before an answer to those after it: a script is applied to them, and else they stay
abbrev pub TakesBy : Shape → TablesValue → TablesValue → Said → Type 0
TakesBy shape old new (Scripts lines) = applied shape old lines ≡ Ok new
TakesBy shape old new said = new ≡ old

-- so does each answer
abbrev pub EachTakes : OpenValue → List Answer → Type 0
EachTakes o [] = Unit {0}
EachTakes o (a ∷ answers) = TakesBy (shape_of o.session.query) (tables_of o.session) (tables_of a.view.session) a.said × EachTakes a.view answers

-- a view was opened over a catalogue, and these answers were given: each script takes the tables to those after its answer, the `.csv` files of the view folder are exactly the canonical files of the view's meaning over the catalogue that is shown, the sources hold what was saved, all other files and folders stay, and just the answers were printed
pub record IsUpheld (t : Tree) (q : Query) (c : CatalogueValue) (answers : List Answer) (shown : CatalogueValue) (saved : Synced) (old new : World) : Type 0 where
  pub tree : Tree
  pub takes : EachTakes (just_opened q c) answers
  pub told : new.store.tree ≡ Some tree
  pub files : Holds (view_folder q.view_db) (files_of_view shown q) tree
  pub sources : SourcesHold saved t tree
  pub others : OthersStay (CsvFiles (view_folder q.view_db) ∷ sources_of saved) t tree
  pub writes : new.store.writes ≡ risen old.store.writes (writes_so_far t q c answers)
  pub printed : new.output.held ≡ with_bytes (printed_by (effects_so_far t q c answers)) old.output.held

-- at the end of its input a view refuses an open group, and syncs
abbrev pub end_answers : OpenValue → List Answer
end_answers o = option_map_or (λ (a : Answer). a ∷ []) (last_answer o) [] ++ syncing (end_view o) ∷ []

-- the view behind the answers to these lines, and all answers with those of the end
abbrev pub view_behind : OpenValue → List (List ℕ) → OpenValue
view_behind o lines = view_after o (answers_to o lines)

abbrev pub all_answers : OpenValue → List (List ℕ) → List Answer
all_answers o lines = answers_to o lines ++ end_answers (view_behind o lines)

-- what was saved by the syncs among the answers to these lines, and by that at their end
abbrev pub saved_behind : OpenValue → List (List ℕ) → Synced
saved_behind o lines = last_synced true o (unsaved o.session.catalogue) (answers_to o lines)

abbrev pub saved_at_end : OpenValue → List (List ℕ) → Synced
saved_at_end o lines = synced (view_behind o lines).session (saved_behind o lines)

-- these sources may be changed, in these lines behind an opening
abbrev pub sources_exempt : Reply OpenValue → List (List ℕ) → List Exempt
sources_exempt (Continues es o) lines = sources_of (saved_at_end o lines)
sources_exempt (Finishes es v) lines = []

-- a view was kept up to date: each line of the input was answered in turn, and so was its end; the view folder shows the last catalogue, and the sources hold it
pub record IsMaintained (d : DefinitionOrRefusal) (t : Tree) (lines : List (List ℕ)) (old new : World) (s : Status) : Type 0 where
  pub opened : IsOpened d t
  pub last : OpenValue
  pub answered : follow step lines (Continues [] (view_at_first opened)) ≡ Continues (effects_by (answers_to (view_at_first opened) lines)) last
  pub upheld : IsUpheld t opened.accepted.query opened.catalogue (all_answers (view_at_first opened) lines) last.session.catalogue (saved_at_end (view_at_first opened) lines) old new
  pub status : s ≡ verdict_status (finish last).status

-- the input gave out: each whole line of the bytes taken was answered in turn, and nothing else was done; the view folder shows the catalogue at the last sync, and the sources hold it
pub record IsCutOff (d : DefinitionOrRefusal) (t : Tree) (bytes : List ℕ) (rest : Option (List ℕ)) (old new : World) : Type 0 where
  pub opened : IsOpened d t
  pub taken : List ℕ
  pub left : List ℕ
  pub split : bytes ≡ taken ++ left
  pub remains : rest ≡ Some left
  pub last : OpenValue
  pub answered : follow step (whole_lines taken) (Continues [] (view_at_first opened)) ≡ Continues (effects_by (answers_to (view_at_first opened) (whole_lines taken))) last
  pub upheld : IsUpheld t opened.accepted.query opened.catalogue (answers_to (view_at_first opened) (whole_lines taken)) (saved_behind (view_at_first opened) (whole_lines taken)).catalogue (saved_behind (view_at_first opened) (whole_lines taken)) old new

-- the lines of a script take the old tables to the new ones, and each fits the tables that those before it leave
pub record TakesTo (old new : TablesValue) (lines : List TableLine) : Type 0 where
  pub makes : after_lines old lines ≡ new
  pub fits : fit_lines old lines ≡ true
