-- What a user relies on of views that are kept up to date over one another.
use Rattle.std.specs.Prelude.{◌≡◌, ◌≢◌, ℕ, ◌+◌, List, [], ◌∷◌, ◌++◌, map, Option, None, Some, Ok}
use Rattle.std.specs.Option.{option_map_or}
use Rattle.tab_lines.specs.Lines.{whole_lines}
use Rattle.outside.specs.Counts.{risen}
use Rattle.outside.specs.Streams.{with_bytes}
use Rattle.outside.specs.Tree.{Tree}
use Rattle.outside.specs.Effects.{Effect, World}
use Rattle.schema_model.specs.Catalogue.{CatalogueValue}
use Rattle.schema_model.specs.Changes.{after_all}
use Rattle.csv_catalog.specs.FileFaults.{first_repeated}
use Rattle.view_def.specs.Query.{Query}
use Rattle.flow_law.specs.Script.{script}
use Rattle.change_script.specs.Applied.{applied}
use Rattle.view_meaning.specs.Meaning.{meaning, shape_of}
use Rattle.view_folder.specs.Files.{view_folder}
use Rattle.view_folder.specs.Sync.{Holds}
use Rattle.source_law.specs.Counted.{tree_after}
use Rattle.source_law.specs.Synced.{Synced, unsaved, SourcesHold}
use Rattle.course.specs.Answering.{Reply, Continues, Finishes, follow}
use Rattle.ss_print.specs.Printing.{prints_synced}
use Rattle.course.specs.declared.exit.Status.{Status}
use Rattle.course.specs.Course.{verdict_status}
use Rattle.view_stages.specs.Places.{Exempt, CsvFiles, OthersStay, sources_of}
use Rattle.view_stages.specs.Stages.{DefinitionOrRefusal, loaded_or_refused, files_of_view}
use Rattle.upkeep_law.specs.Promises.{printed_by}
use Rattle.ss_print.specs.LevelLines.{prints_scripts}
use Rattle.view_stack.specs.Stands.{given_by}
use Rattle.stack_levels.specs.Levels.{lines_over, opening_refusal, changing_refusal}
use Rattle.stack_answers.specs.Stack.{StackState, stack_at_first}
use Rattle.stack_answers.specs.Answers.{Answer, by_open, end_stack, syncing, step, finish}
use Rattle.stack_answers.specs.Opening.{all_accepted, folders_opened, opening_sum}
use Rattle.stack_law.specs.Lists.{answers_to, effects_by, changes_by, stack_after, synced, last_synced, writes_by}

-- definitions were accepted, of which no two are of one view database; so were the sources, and no level is refused over them
pub record AreOpened (ds : List DefinitionOrRefusal) (t : Tree) : Type 0 where
  pub queries : List Query
  pub catalogue : CatalogueValue
  pub accepted : all_accepted ds ≡ Ok queries
  pub apart : first_repeated (map (λ (q : Query). q.view_db) queries) ≡ None
  pub loaded : loaded_or_refused t ≡ Ok catalogue
  pub unrefused : opening_refusal catalogue queries ≡ None

-- the stack of the views, over the catalogue that it was opened with
abbrev pub opened_stack : {ds : List DefinitionOrRefusal} {t : Tree} → AreOpened ds t → StackState
opened_stack o = stack_at_first o.queries o.catalogue

-- the `.csv` files of the folders of these views
abbrev pub folders_of : List Query → List Exempt
folders_of qs = map (λ (q : Query). CsvFiles (view_folder q.view_db)) qs

-- in the folder of each level the `.csv` files are exactly the canonical files of its view's meaning over the database that the level below gives, the lowest being over this catalogue
abbrev pub FoldersHold : CatalogueValue → List Query → Tree → Type 0
FoldersHold c [] t = Unit {0}
FoldersHold c (q ∷ qs) t = Holds (view_folder q.view_db) (files_of_view c q) t × FoldersHold (given_by c q) qs t

-- the script of each level, where one catalogue becomes another, applied to its former tables gives its present ones
abbrev pub AllTake : CatalogueValue → CatalogueValue → List Query → Type 0
AllTake c d [] = Unit {0}
AllTake c d (q ∷ qs) = (applied (shape_of q) (meaning c q) (script (meaning c q) (meaning d q)) ≡ Ok (meaning d q)) × AllTake (given_by c q) (given_by d q) qs

-- changes are made at all levels: none refuses what they come to, and the lines of each are printed, which take its tables along
pub record AreMade (qs : List Query) (c : CatalogueValue) (a : Answer) : Type 0 where
  pub unrefused : changing_refusal c a.stack.catalogue qs ≡ None
  pub printed : a.effects ≡ prints_scripts (lines_over c a.stack.catalogue qs) ∷ []
  pub takes : AllTake c a.stack.catalogue qs

-- an answer makes its changes at all levels, or it makes none
pub record MakesAllOrNone (qs : List Query) (c : CatalogueValue) (a : Answer) : Type 0 where
  pub catalogue : a.stack.catalogue ≡ after_all c a.changes
  pub made : a.changes ≢ [] → AreMade qs c a

-- so does each of these, one after the other
abbrev pub EachMakes : List Query → CatalogueValue → List Answer → Type 0
EachMakes qs c [] = Unit {0}
EachMakes qs c (a ∷ answers) = MakesAllOrNone qs c a × EachMakes qs a.stack.catalogue answers

-- the effects of the opening of a stack over a catalogue, and of all answers behind it
abbrev pub opening_of : Tree → List Query → CatalogueValue → List Effect
opening_of t qs c = folders_opened t c qs ++ prints_synced (opening_sum t c qs) ∷ []

abbrev pub effects_so_far : Tree → List Query → CatalogueValue → List Answer → List Effect
effects_so_far t qs c answers = opening_of t qs c ++ effects_by answers

-- how many files and folders all that writes, makes or removes
abbrev pub writes_so_far : Tree → List Query → CatalogueValue → List Answer → ℕ
writes_so_far t qs c answers = opening_sum t c qs + writes_by (tree_after (opening_of t qs c) t) (stack_at_first qs c) answers

-- a stack was opened over a catalogue, and these answers were given: each makes its changes at all levels or none, the folder of each level shows the catalogue that is shown, the sources hold what was saved, all other files and folders stay, and just the answers were printed
pub record AreUpheld (t : Tree) (qs : List Query) (c : CatalogueValue) (answers : List Answer) (shown : CatalogueValue) (saved : Synced) (old new : World) : Type 0 where
  pub tree : Tree
  pub makes : EachMakes qs c answers
  pub told : new.store.tree ≡ Some tree
  pub folders : FoldersHold shown qs tree
  pub sources : SourcesHold saved t tree
  pub others : OthersStay (folders_of qs ++ sources_of saved) t tree
  pub writes : new.store.writes ≡ risen old.store.writes (writes_so_far t qs c answers)
  pub printed : new.output.held ≡ with_bytes (printed_by (effects_so_far t qs c answers)) old.output.held

-- at the end of its input a stack refuses an open group, and syncs
abbrev pub end_answers : StackState → List Answer
end_answers s = option_map_or (λ (a : Answer). a ∷ []) (by_open s s.held) [] ++ syncing (end_stack s) ∷ []

-- the stack behind the answers to these lines, and all answers with those of the end
abbrev pub stack_behind : StackState → List (List ℕ) → StackState
stack_behind s lines = stack_after s (answers_to s lines)

abbrev pub all_answers : StackState → List (List ℕ) → List Answer
all_answers s lines = answers_to s lines ++ end_answers (stack_behind s lines)

-- what was saved by the syncs among the answers to these lines, and by that at their end
abbrev pub saved_behind : StackState → List (List ℕ) → Synced
saved_behind s lines = last_synced s (unsaved s.catalogue) (answers_to s lines)

abbrev pub saved_at_end : StackState → List (List ℕ) → Synced
saved_at_end s lines = synced (stack_behind s lines) (saved_behind s lines)

-- these sources may be changed, in these lines behind an opening
abbrev pub sources_stacked : Reply StackState → List (List ℕ) → List Exempt
sources_stacked (Continues es s) lines = sources_of (saved_at_end s lines)
sources_stacked (Finishes es v) lines = []

-- views were kept up to date over one another: each line of the input was answered in turn, and so was its end; the last catalogue is that which the changes make that all levels accepted, the folder of each level shows it, and the sources hold it
pub record AreMaintained (ds : List DefinitionOrRefusal) (t : Tree) (lines : List (List ℕ)) (old new : World) (s : Status) : Type 0 where
  pub opened : AreOpened ds t
  pub last : StackState
  pub answered : follow step lines (Continues [] (opened_stack opened)) ≡ Continues (effects_by (answers_to (opened_stack opened) lines)) last
  pub catalogue : last.catalogue ≡ after_all opened.catalogue (changes_by (answers_to (opened_stack opened) lines))
  pub upheld : AreUpheld t opened.queries opened.catalogue (all_answers (opened_stack opened) lines) last.catalogue (saved_at_end (opened_stack opened) lines) old new
  pub status : s ≡ verdict_status (finish last).status

-- the input gave out: each whole line of the bytes taken was answered in turn, and nothing else was done; the folder of each level shows the catalogue at the last sync, and the sources hold it
pub record AreCutOff (ds : List DefinitionOrRefusal) (t : Tree) (bytes : List ℕ) (rest : Option (List ℕ)) (old new : World) : Type 0 where
  pub opened : AreOpened ds t
  pub taken : List ℕ
  pub left : List ℕ
  pub split : bytes ≡ taken ++ left
  pub remains : rest ≡ Some left
  pub last : StackState
  pub answered : follow step (whole_lines taken) (Continues [] (opened_stack opened)) ≡ Continues (effects_by (answers_to (opened_stack opened) (whole_lines taken))) last
  pub upheld : AreUpheld t opened.queries opened.catalogue (answers_to (opened_stack opened) (whole_lines taken))
      (saved_behind (opened_stack opened) (whole_lines taken)).catalogue (saved_behind (opened_stack opened) (whole_lines taken)) old new
