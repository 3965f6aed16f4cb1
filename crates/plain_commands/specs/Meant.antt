-- The files that the folder of a view should hold.
use Rattle.std.specs.Prelude.{List, Option, None, Some, Result, Ok, Err}
use Rattle.ss_text.specs.Texts.{Text, Row}
use Rattle.outside.specs.Tree.{Tree}
use Rattle.schema_model.specs.Catalogue.{CatalogueValue}
use Rattle.view_def.specs.Query.{Query}
use Rattle.view_folder.specs.declared.file.File.{File}
use Rattle.course.specs.declared.status.Verdict.{Verdict}
use Rattle.course.specs.declared.status.Verdict.TheVariants as verdict
use Rattle.view_stages.specs.Stages.{DefinitionOrRefusal, loaded_or_refused, refusal_of, files_of_view}

-- a view's database, and the files of its tables
pub record MeantFiles : Type 0 where
  pub view_db : Text
  pub files : List File

-- these, or the fields of the first refusal, and the verdict that it comes to
abbrev pub MeantOrRefused : Type 0
MeantOrRefused = Result MeantFiles (Row × Verdict)

-- the view over a catalogue is refused, or has its files
abbrev pub meant_view : Query → CatalogueValue → Option Row → MeantOrRefused
meant_view q c (Some fields) = Err (fields, verdict.NoView)
meant_view q c None = Ok (record { view_db = q.view_db; files = files_of_view c q })

-- the catalogue is refused, or the view is judged over it
abbrev pub meant_over : Query → Result CatalogueValue Row → MeantOrRefused
meant_over q (Err fields) = Err (fields, verdict.BadCatalogue)
meant_over q (Ok c) = meant_view q c (refusal_of c q)

-- the definition is refused, or the catalogue is loaded
abbrev pub meant : Tree → DefinitionOrRefusal → MeantOrRefused
meant t (Err fields) = Err (fields, verdict.BadDefinition)
meant t (Ok a) = meant_over a.query (loaded_or_refused t)
