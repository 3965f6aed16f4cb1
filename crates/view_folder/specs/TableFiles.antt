-- The files of tables.
use Rattle.std.specs.Prelude.{◌≢◌, List, [], ◌∷◌, map}
use Rattle.std.specs.List.{AllByRecursion}
use Rattle.ss_text.specs.Texts.{Text, Row}
use Rattle.csv_catalog.specs.RecordText.{csv_text}
use Rattle.flow_law.specs.declared.shape.Shape.{Shape}
use Rattle.flow_law.specs.Tables.{TableValue, TablesValue}
use Rattle.flow_law.specs.Records.{spliced, row_records}
use Rattle.view_folder.specs.declared.file.File.{File}
use Rattle.view_folder.specs.Files.{file_name}

-- the header, and a record for each key, ascending
abbrev pub table_records : Shape → TableValue → List Row
table_records shape t = spliced shape.spot shape.constants t.columns ∷ row_records shape.spot t.rows

unfoldable pub table_text : Shape → TableValue → Text
table_text shape t = csv_text (table_records shape t)

abbrev pub table_file : Shape → Text × TableValue → File
table_file shape p = record { name = file_name p.0; bytes = table_text shape p.1 }

-- a file for each table, in the order of their labels
unfoldable pub table_files : Shape → TablesValue → List File
table_files shape ts = map (table_file shape) ts

-- a table whose records have a field: there is a constant column, and each key has a text
pub record FitsShape (shape : Shape) (t : TableValue) : Type 0 where
  pub some : shape.constants ≢ []
  pub keys : AllByRecursion (λ (r : Row × Row). r.0 ≢ []) t.rows

-- each of these tables has such records
abbrev pub FitShape : Shape → TablesValue → Type 0
FitShape shape ts = AllByRecursion (λ (p : Text × TableValue). FitsShape shape p.1) ts
