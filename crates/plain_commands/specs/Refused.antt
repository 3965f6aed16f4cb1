-- The name and the fields of each refusal of a line and of a view folder, as they are printed.
use Rattle.std.specs.Prelude.{ℕ, [], ◌∷◌, Option, None, Some, option_to_list, slice_index_or, codes, decimal}
use Rattle.ss_text.specs.Texts.{Text, Row}
use Rattle.flow_law.specs.declared.refused.IllegalLabel.{IllegalLabel}
use Rattle.flow_law.specs.declared.line.TableLine.{TableLine}
use Rattle.flow_law.specs.declared.line.TableLine.TheVariants.{ColumnMinus, ColumnPlus, Cell}
use Rattle.flow_law.specs.Lines.{label_of}
use Rattle.change_script.specs.declared.reading.ScriptFault.{ScriptFault}
use Rattle.change_script.specs.declared.reading.ScriptFault.TheVariants as script
use Rattle.change_script.specs.declared.applying.ApplyFault.{ApplyFault}
use Rattle.change_script.specs.declared.applying.ApplyFault.TheVariants as apply
use Rattle.view_folder.specs.declared.held.TablesFault.{TablesFault}
use Rattle.view_folder.specs.declared.held.TablesFault.TheVariants as tables

-- a line with a backslash, at this place, that spells nothing
abbrev pub escape_fields : ℕ → Row
escape_fields at = codes "bad-escape" ∷ decimal at ∷ []

-- the first field of a line
abbrev pub first_field : Row → Text
first_field row = slice_index_or row 0 []

-- a line that says nothing that a script could; want of memory is no refusal
abbrev pub script_fields : Row → ScriptFault → Row
script_fields row script.UnknownVerb = codes "unknown-verb" ∷ first_field row ∷ []
script_fields row (script.FieldCount got) = codes "field-count" ∷ first_field row ∷ decimal got ∷ []
script_fields row script.NoMemory = []

-- the column that a line names
abbrev pub column_in : TableLine → Option Text
column_in (ColumnMinus label column) = Some column
column_in (ColumnPlus label column) = Some column
column_in (Cell label column value key) = Some column
column_in line = None

-- a line's label, and its column where it names one
abbrev pub target_in : TableLine → Row
target_in line = label_of line ∷ option_to_list (column_in line)

-- a label that is not legal: the table's, and the column's where it is that
abbrev pub illegal_fields : IllegalLabel → Row
illegal_fields e = codes "illegal-label" ∷ e.table ∷ option_to_list e.column

-- a line that is not applied; want of memory is no refusal
abbrev pub apply_fields : TableLine → ApplyFault → Row
apply_fields line (apply.KeyLength want got) = codes "key-length" ∷ decimal want ∷ decimal got ∷ []
apply_fields line (apply.Illegal label) = illegal_fields label
apply_fields line apply.NoTarget = codes "no-target" ∷ target_in line
apply_fields line apply.TargetThere = codes "target-there" ∷ target_in line
apply_fields line apply.NoMemory = []

-- a folder of a view's database that is refused; a fault of reading or of memory is no refusal
abbrev pub tables_fields : Text → TablesFault → Row
tables_fields db (tables.NoHeader file) = codes "no-header" ∷ db ∷ file ∷ []
tables_fields db (tables.NameTwice file name) = codes "name-twice" ∷ db ∷ file ∷ name ∷ []
tables_fields db (tables.Ragged file nth want got) = codes "ragged" ∷ db ∷ file ∷ decimal nth ∷ decimal want ∷ decimal got ∷ []
tables_fields db (tables.NotThisView file) = codes "not-this-view" ∷ file ∷ []
tables_fields db tables.ReadFault = []
tables_fields db tables.NoMemory = []
