-- What is printed in one place takes the view folder of another along.
use Rattle.std.specs.Prelude.{◌≡◌, ◌≢◌, ℕ, false, List, [], Option, Some, Ok}
use Rattle.std.specs.List.{AllByRecursion}
use Rattle.ss_text.specs.Texts.{Text}
use Rattle.outside.specs.Tree.{Tree}
use Rattle.outside.specs.Effects.{World}
use Rattle.tab_lines.specs.Lines.{lines_of}
use Rattle.course.specs.declared.status.Verdict.TheVariants as verdict
use Rattle.schema_model.specs.Catalogue.{CatalogueValue}
use Rattle.csv_catalog.specs.RecordText.{starts_with_bom}
use Rattle.view_def.specs.Query.{Query}
use Rattle.flow_law.specs.declared.line.TableLine.{TableLine}
use Rattle.flow_law.specs.declared.shape.Shape.{Shape}
use Rattle.flow_law.specs.InOrder.{AreTables}
use Rattle.flow_law.specs.Tables.{TableValue, TablesValue}
use Rattle.change_script.specs.Applied.{applied}
use Rattle.change_script.specs.Fits.{IsForm, TablesFit}
use Rattle.view_meaning.specs.Meaning.{shape_of, meaning}
use Rattle.view_folder.specs.Files.{view_folder}
use Rattle.view_folder.specs.Held.{held}
use Rattle.view_folder.specs.Sync.{Holds}
use Rattle.view_folder.specs.TableFiles.{table_records, table_files}
use Rattle.plain_commands.specs.Scripts.{script_said}
use Rattle.course.specs.declared.exit.Status.{Status}
use Rattle.plain_commands.specs.Applies.{IsApplied}
use Rattle.ss_top.specs.Commands.{Apply}
use Rattle.view_stages.specs.Opening.{IsDefinition}
use Rattle.upkeep_law.specs.Promises.{IsMaintained}
use Rattle.view_stages.specs.Opened.{folder_of}
use Rattle.ss_top.specs.Runs.{of_view, course_of}
use Rattle.view_stages.specs.Stages.{DefinitionOrRefusal, files_of_view}

-- the headers of these tables do not begin with a byte order mark
abbrev pub HavePlainHeaders : Shape → TablesValue → Type 0
HavePlainHeaders shape ts = AllByRecursion (λ (p : Text × TableValue). starts_with_bom (table_records shape p.1) ≡ false) ts

-- a folder that holds the files of tables of a form, which has a constant column, is read as these tables
abbrev pub TablesReadBack : Type 0
TablesReadBack = (shape : Shape) (ts : TablesValue) (folder : Text) (t : Tree) → IsForm shape → shape.constants ≢ [] → AreTables ts → TablesFit shape ts → HavePlainHeaders shape ts
    → Holds folder (table_files shape ts) t → held shape t folder ≡ Ok ts

-- an output, piped to where the view's folder holds the tables over a first catalogue: these are read, the output says a script, which takes them to the tables over a last catalogue, nothing of it is refused there, and where it was applied the folder holds the files of these
pub record IsPiped (d : DefinitionOrRefusal) (q : Query) (first last : CatalogueValue) (t : Tree) (output : List ℕ) : Type 0 where
  pub opens : HavePlainHeaders (shape_of q) (meaning first q) → held (shape_of q) t (view_folder q.view_db) ≡ Ok (meaning first q)
  pub script : List TableLine
  pub says : script_said (lines_of output) ≡ Some script
  pub takes : applied (shape_of q) (meaning first q) script ≡ Ok (meaning last q)
  pub ends : HavePlainHeaders (shape_of q) (meaning first q) → (name : Text) → ((course_of (of_view Apply name t d)).whole (lines_of output)).status ≡ verdict.Done
  pub leaves : HavePlainHeaders (shape_of q) (meaning first q) → (old new : World) (did : IsApplied d t (lines_of output) old new) → Holds (view_folder q.view_db) (files_of_view last q) did.tree

-- where a view was kept up to date, with an output of its own, and a folder in another place holds what the view's folder held behind the opening, the output is piped there
abbrev pub PipedViewsFollow : Type 0
PipedViewsFollow = (name : Text) (bytes : Option (List ℕ)) (d : DefinitionOrRefusal) (t u : Tree) (lines : List (List ℕ)) (old new : World) (s : Status) (output : List ℕ) (did : IsMaintained d t lines old new s)
    → IsDefinition name bytes d → old.output.held ≡ Some [] → new.output.held ≡ Some output
    → Holds (folder_of did.opened.accepted) (files_of_view did.opened.catalogue did.opened.accepted.query) u
    → IsPiped d did.opened.accepted.query did.opened.catalogue did.last.session.catalogue u output
