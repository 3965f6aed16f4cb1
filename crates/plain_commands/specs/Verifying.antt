-- What `verify` does.
use Rattle.std.specs.Prelude.{Option, None, Some, Result, Ok, Err}
use Rattle.ss_text.specs.Texts.{Row}
use Rattle.outside.specs.Tree.{Tree}
use Rattle.schema_model.specs.Catalogue.{CatalogueValue}
use Rattle.view_def.specs.Query.{Query}
use Rattle.view_folder.specs.Files.{view_folder}
use Rattle.view_folder.specs.Comparison.{comparison}
use Rattle.view_folder.specs.declared.comparison.Comparison.{Comparison}
use Rattle.view_folder.specs.declared.comparison.Comparison.TheVariants as compared
use Rattle.course.specs.declared.status.Verdict.TheVariants as verdict
use Rattle.course.specs.Answering.{Ending}
use Rattle.ss_print.specs.Printing.{refuses, prints_same, prints_difference}
use Rattle.view_stages.specs.Stages.{DefinitionOrRefusal, loaded_or_refused, refusal_of, files_of_view}
use Rattle.plain_commands.specs.Checking.{ends}

-- how a folder compares, and the end
abbrev pub by_comparison : Comparison → Ending
by_comparison (compared.Same count) = ends (prints_same count) verdict.Done
by_comparison (compared.Differs file held meant) = ends (prints_difference file held meant) verdict.NoView

-- the view over a catalogue is refused, or its folder is compared with its files
abbrev pub verified_view : Tree → Query → CatalogueValue → Option Row → Ending
verified_view t q c (Some fields) = ends (refuses fields) verdict.NoView
verified_view t q c None = by_comparison (comparison (view_folder q.view_db) (files_of_view c q) t)

-- the catalogue is refused, or the view is judged over it
abbrev pub verified_over : Tree → Query → Result CatalogueValue Row → Ending
verified_over t q (Err fields) = ends (refuses fields) verdict.BadCatalogue
verified_over t q (Ok c) = verified_view t q c (refusal_of c q)

-- the definition is refused, or the catalogue is loaded
abbrev pub verified : Tree → DefinitionOrRefusal → Ending
verified t (Err fields) = ends (refuses fields) verdict.BadDefinition
verified t (Ok a) = verified_over t a.query (loaded_or_refused t)
