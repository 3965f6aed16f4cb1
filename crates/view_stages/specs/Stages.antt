-- What a definition, the source folders and a view over them are, or the fields of their refusals.
use Rattle.std.specs.Prelude.{◌≡◌, ◌≢◌, ◌⊎◌, ℕ, List, Option, Result, Ok, Err}
use Rattle.ss_text.specs.Texts.{Row}
use Rattle.outside.specs.Tree.{Tree}
use Rattle.schema_model.specs.Catalogue.{CatalogueValue}
use Rattle.csv_catalog.specs.Loaded.{loaded}
use Rattle.csv_catalog.specs.declared.fault.LoadFault.{LoadFault}
use Rattle.view_def.specs.Query.{Query}
use Rattle.view_def.specs.Tree as tree
use Rattle.ss_parser.specs.Refused as grammar
use Rattle.ss_parser.specs.declared.fault.ParseFault.{ParseFault}
use Rattle.ss_parser.specs.declared.fault.ParseFault.TheVariants as parse
use Rattle.var_typing.specs.Typed.{typed}
use Rattle.var_typing.specs.declared.fault.TypeFault.{TypeFault}
use Rattle.flow_law.specs.Facts.{refusal_by}
use Rattle.view_meaning.specs.Meaning.{facts, shape_of, meaning}
use Rattle.view_folder.specs.declared.file.File.{File}
use Rattle.view_folder.specs.TableFiles.{table_files}
use Rattle.ss_print.specs.Fields.{parse_fields, type_fields, load_fields, illegal_fields, clash_fields}

-- a definition that is accepted: as it is written, and as it is typed
pub record Accepted : Type 0 where
  pub written : tree.ViewTree
  pub query : Query

-- a definition, or the fields of its refusal
abbrev pub DefinitionOrRefusal : Type 0
DefinitionOrRefusal = Result Accepted Row

abbrev pub by_typing : tree.ViewTree → Result Query TypeFault → DefinitionOrRefusal
by_typing v (Ok q) = Ok (record { written = v; query = q })
by_typing v (Err f) = Err (type_fields f)

-- a written view as it is typed
unfoldable pub typed_or_refused : tree.ViewTree → DefinitionOrRefusal
typed_or_refused v = by_typing v (typed v)

-- what bytes are read as: they are a view text, whose tree has a type or not; or they are none, and are refused where they cease to be one
unfoldable pub ReadsAs : List ℕ → DefinitionOrRefusal → Type 0
ReadsAs bytes d =
    ((v : tree.ViewTree) × grammar.IsRead bytes v × (d ≡ typed_or_refused v))
    ⊎ ((f : ParseFault) × (f ≢ parse.NoMemory) × grammar.IsRefused bytes f × (d ≡ Err (parse_fields f)))

abbrev pub by_loading : Result CatalogueValue LoadFault → Result CatalogueValue Row
by_loading (Ok c) = Ok c
by_loading (Err f) = Err (load_fields f)

-- the catalogue of the source folders, or the fields of its refusal
unfoldable pub loaded_or_refused : Tree → Result CatalogueValue Row
loaded_or_refused t = by_loading (loaded t)

-- the fields of the refusal of a view over a catalogue: of an illegal label, or else of a conflict
unfoldable pub refusal_of : CatalogueValue → Query → Option Row
refusal_of c q = refusal_by illegal_fields clash_fields (shape_of q) (facts c q)

-- the files of a view's tables over a catalogue
unfoldable pub files_of_view : CatalogueValue → Query → List File
files_of_view c q = table_files (shape_of q) (meaning c q)
