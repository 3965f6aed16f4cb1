-- Lines of tables as changes of the database that stands for them.
use Rattle.std.specs.Prelude.{Bool, false, ◌&&◌, List, [], ◌∷◌, ◌++◌, Option, Some, None, unwrap_or, remove, if◌then◌else◌}
use Rattle.std.specs.List.{position_or_len}
use Rattle.ss_text.specs.Texts.{Text, Row, text_eq, row_eq}
use Rattle.flow_law.specs.Tables.{TableValue, TablesValue, empty_table, table_of}
use Rattle.flow_law.specs.Lines.{label_of}
use Rattle.flow_law.specs.declared.line.TableLine.{TableLine}
use Rattle.flow_law.specs.declared.line.TableLine.TheVariants.{TableMinus, TablePlus, RowMinus, ColumnMinus, ColumnPlus, RowPlus, Cell}
use Rattle.schema_model.specs.Catalogue.{CatalogueValue, attributes_of}
use Rattle.schema_model.specs.declared.change.Change.{Change}
use Rattle.schema_model.specs.declared.change.Change.TheVariants.{Insert, Delete, AddAttribute, DropAttribute, CreateRelation, DropRelation}
use Rattle.view_stack.specs.Records.{record_of, front_cells, record_after}

-- the changes of a line with those behind it: a row that comes is inserted with the cells of its key right behind it, and the lines of cells in another row are made by one delete and one insert
abbrev pub lifted_line : Text → Row → TableValue → Row → TableLine → List TableLine → List Change
lifted_line db constants t attributes (TableMinus label) later = DropRelation db label ∷ []
lifted_line db constants t attributes (TablePlus label) later = CreateRelation db label constants ∷ []
lifted_line db constants t attributes (ColumnMinus label column) later = DropAttribute db label column ∷ []
lifted_line db constants t attributes (ColumnPlus label column) later = AddAttribute db label column [] ∷ []
lifted_line db constants t attributes (RowMinus label key) later = Delete db label (record_of constants attributes t key) ∷ []
lifted_line db constants t attributes (RowPlus label key) later = Insert db label (record_after constants attributes t key (front_cells label key later)) ∷ []
lifted_line db constants t attributes (Cell label column value key) later =
    Delete db label (record_of constants attributes t key) ∷ Insert db label (record_after constants attributes t key ((column, value) ∷ front_cells label key later)) ∷ []

-- the row of a line that brings one, or is of a cell
abbrev pub row_of : TableLine → Option (Text × Row)
row_of (RowPlus label key) = Some (label, key)
row_of (Cell label column value key) = Some (label, key)
row_of line = None

-- whether a line is of a cell in a row
abbrev pub goes_on : Option (Text × Row) → TableLine → Bool
goes_on None line = false
goes_on (Some row) (Cell label column value key) = text_eq row.0 label && row_eq row.1 key
goes_on (Some row) line = false

-- the table of a label, without rows and columns where there is none
abbrev pub table_at : TablesValue → Text → TableValue
table_at ts label = unwrap_or (table_of ts label) empty_table

-- the attributes of a relation after the changes of a line
abbrev pub names_after : Row → TableLine → Row → Row
names_after constants (TableMinus label) names = []
names_after constants (TablePlus label) names = constants
names_after constants (ColumnMinus label column) names = remove names (position_or_len (text_eq column) names)
names_after constants (ColumnPlus label column) names = names ++ column ∷ []
names_after constants line names = names

-- those of a label, where the line before left these of its label
abbrev pub names_of : CatalogueValue → Text → Option (Text × Row) → Text → Row
names_of c db None label = attributes_of c db label
names_of c db (Some left) label = if text_eq left.0 label then left.1 else attributes_of c db label

-- the changes of lines behind one that left these attributes of its label, and brought this row or was of a cell in it
abbrev pub lifted_behind : Text → Row → TablesValue → CatalogueValue → Option (Text × Row) → Option (Text × Row) → List TableLine → List Change
lifted_behind db constants ts c left row [] = []
lifted_behind db constants ts c left row (line ∷ lines) =
    let names = names_of c db left (label_of line) in
    let changes = if goes_on row line then [] else lifted_line db constants (table_at ts (label_of line)) names line lines in
    changes ++ lifted_behind db constants ts c (Some (label_of line, names_after constants line names)) (row_of line) lines

-- the changes of lines by which tables change, where the catalogue stands for the tables before them
abbrev pub lifted : Text → Row → TablesValue → CatalogueValue → List TableLine → List Change
lifted db constants ts c lines = lifted_behind db constants ts c None None lines
