-- What is read and written when a view is opened.
use Rattle.std.specs.Prelude.{◌≡◌, ℕ, List, [], ◌∷◌, ◌++◌, Option, None, Some, Result, Ok, Err, codes}
use Rattle.ss_text.specs.Texts.{Text, Row}
use Rattle.outside.specs.Tree.{Tree, file_at, files_of}
use Rattle.outside.specs.Effects.{Effect}
use Rattle.schema_model.specs.Catalogue.{CatalogueValue}
use Rattle.view_def.specs.Query.{Query}
use Rattle.view_folder.specs.declared.file.File.{File}
use Rattle.view_folder.specs.Files.{view_folder}
use Rattle.view_folder.specs.Sync.{opening_sync, opening_count}
use Rattle.course.specs.declared.status.Verdict.{Verdict}
use Rattle.course.specs.declared.status.Verdict.TheVariants as verdict
use Rattle.course.specs.Answering.{Reply, Continues, Finishes, Ending}
use Rattle.ss_print.specs.Printing.{refuses, prints_synced}
use Rattle.view_stages.specs.Open.{OpenValue, just_opened}
use Rattle.view_stages.specs.Stages.{DefinitionOrRefusal, ReadsAs, loaded_or_refused, refusal_of, files_of_view}

-- the bytes of a definition, where it is there
abbrev pub definition_bytes : Tree → Text → Option (List ℕ)
definition_bytes t name = file_at t (codes "defs") (name ++ codes ".ssql")

-- what a definition is: missing, or what its bytes are read as
abbrev pub IsDefinition : Text → Option (List ℕ) → DefinitionOrRefusal → Type 0
IsDefinition name None d = d ≡ Err (codes "no-definition" ∷ name ∷ [])
IsDefinition name (Some bytes) d = ReadsAs bytes d

abbrev pub halts : Row → Verdict → Reply OpenValue
halts fields v = Finishes (refuses fields ∷ []) v

-- the opening sync, and its count
abbrev pub opening_effects : Text → List File → List Text → List Effect
opening_effects folder files names = opening_sync folder files names ++ prints_synced (opening_count files names) ∷ []

abbrev pub opened : Tree → Query → CatalogueValue → Reply OpenValue
opened t q c = Continues (opening_effects (view_folder q.view_db) (files_of_view c q) (files_of t (view_folder q.view_db))) (just_opened q c)

-- the view over a catalogue is refused, or it is opened
abbrev pub with_view : Tree → Query → CatalogueValue → Option Row → Reply OpenValue
with_view t q c (Some fields) = halts fields verdict.NoView
with_view t q c None = opened t q c

-- the catalogue is refused, or the view is judged over it
abbrev pub with_catalogue : Tree → Query → Result CatalogueValue Row → Reply OpenValue
with_catalogue t q (Err fields) = halts fields verdict.BadCatalogue
with_catalogue t q (Ok c) = with_view t q c (refusal_of c q)

-- the definition is refused, or the catalogue is loaded
abbrev pub opening : Tree → DefinitionOrRefusal → Reply OpenValue
opening t (Err fields) = halts fields verdict.BadDefinition
opening t (Ok a) = with_catalogue t a.query (loaded_or_refused t)

-- `show` ends where the view is open
abbrev pub done_at_once : OpenValue → Ending
done_at_once o = record { effects = []; status = verdict.Done }
