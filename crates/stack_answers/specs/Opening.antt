-- What is read and written when a stack is opened.
use Rattle.std.specs.Prelude.{◌+◌, ℕ, List, [], ◌∷◌, ◌++◌, map, Option, None, Some, Result, Ok, Err, codes}
use Rattle.ss_text.specs.Texts.{Text, Row}
use Rattle.outside.specs.Tree.{Tree, files_of}
use Rattle.outside.specs.Effects.{Effect}
use Rattle.schema_model.specs.Catalogue.{CatalogueValue}
use Rattle.csv_catalog.specs.FileFaults.{first_repeated}
use Rattle.view_def.specs.Query.{Query}
use Rattle.view_folder.specs.Files.{view_folder}
use Rattle.view_folder.specs.Sync.{opening_sync, opening_count}
use Rattle.course.specs.declared.status.Verdict.{Verdict}
use Rattle.course.specs.declared.status.Verdict.TheVariants as verdict
use Rattle.course.specs.Answering.{Reply, Continues, Finishes}
use Rattle.ss_print.specs.Printing.{prints_synced}
use Rattle.view_stages.specs.Stages.{Accepted, DefinitionOrRefusal, loaded_or_refused, files_of_view}
use Rattle.stack_levels.specs.declared.refusal.LevelRefusal.{LevelRefusal}
use Rattle.view_stack.specs.Stands.{given_by}
use Rattle.stack_levels.specs.Levels.{refused_at, opening_refusal}
use Rattle.stack_answers.specs.Stack.{StackState, stack_at_first}
use Rattle.stack_answers.specs.Answers.{refusal_effects}

-- definitions that are all accepted, or the fields of the first refusal
abbrev pub with_first : Result Accepted Row → Result (List Query) Row → Result (List Query) Row
with_first (Err fields) rest = Err fields
with_first (Ok a) (Err fields) = Err fields
with_first (Ok a) (Ok qs) = Ok (a.query ∷ qs)

abbrev pub all_accepted : List DefinitionOrRefusal → Result (List Query) Row
all_accepted [] = Ok []
all_accepted (d ∷ ds) = with_first d (all_accepted ds)

abbrev pub halts : LevelRefusal → Verdict → Reply StackState
halts r v = Finishes (refusal_effects r) v

-- the opening sync of each level, over the folders as they were, and how many files they write and remove together
abbrev pub folders_opened : Tree → CatalogueValue → List Query → List Effect
folders_opened t c [] = []
folders_opened t c (q ∷ qs) = opening_sync (view_folder q.view_db) (files_of_view c q) (files_of t (view_folder q.view_db)) ++ folders_opened t (given_by c q) qs

abbrev pub opening_sum : Tree → CatalogueValue → List Query → ℕ
opening_sum t c [] = 0
opening_sum t c (q ∷ qs) = opening_count (files_of_view c q) (files_of t (view_folder q.view_db)) + opening_sum t (given_by c q) qs

abbrev pub opened : Tree → List Query → CatalogueValue → Reply StackState
opened t qs c = Continues (folders_opened t c qs ++ prints_synced (opening_sum t c qs) ∷ []) (stack_at_first qs c)

-- a level is refused, or all are opened
abbrev pub with_levels : Tree → List Query → CatalogueValue → Option LevelRefusal → Reply StackState
with_levels t qs c (Some r) = halts r verdict.NoView
with_levels t qs c None = opened t qs c

-- the catalogue is refused, or the levels are judged over it
abbrev pub with_catalogue : Tree → List Query → Result CatalogueValue Row → Reply StackState
with_catalogue t qs (Err fields) = halts (refused_at 1 fields) verdict.BadCatalogue
with_catalogue t qs (Ok c) = with_levels t qs c (opening_refusal c qs)

-- a view database that stands twice
abbrev pub twice_fields : Text → Row
twice_fields db = codes "view-database-twice" ∷ db ∷ []

-- a view database stands twice, or the catalogue is loaded
abbrev pub with_databases : Tree → List Query → Option Text → Reply StackState
with_databases t qs (Some db) = halts (refused_at 1 (twice_fields db)) verdict.BadDefinition
with_databases t qs None = with_catalogue t qs (loaded_or_refused t)

-- a definition is refused, or their view databases are compared
abbrev pub with_definitions : Tree → Result (List Query) Row → Reply StackState
with_definitions t (Err fields) = halts (refused_at 1 fields) verdict.BadDefinition
with_definitions t (Ok qs) = with_databases t qs (first_repeated (map (λ (q : Query). q.view_db) qs))

abbrev pub opening : Tree → List DefinitionOrRefusal → Reply StackState
opening t ds = with_definitions t (all_accepted ds)
