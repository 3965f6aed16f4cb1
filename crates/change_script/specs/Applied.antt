-- Script lines applied to tables, one by one: the tables after them, or why the first that does not apply does not.
use Rattle.std.specs.Prelude.{ℕ, ◌==◌, Bool, true, false, ◌&&◌, List, [], ◌∷◌, length, Option, Some, None, is_some, Result, Ok, Err, if◌then◌else◌}
use Rattle.std.specs.Option.{option_or, option_map_or}
use Rattle.ss_text.specs.Texts.{Row}
use Rattle.ss_text.specs.Label.{is_table_label, is_column_label}
use Rattle.flow_law.specs.declared.shape.Shape.{Shape}
use Rattle.flow_law.specs.declared.line.TableLine.{TableLine}
use Rattle.flow_law.specs.declared.line.TableLine.TheVariants.{TablePlus, RowMinus, ColumnMinus, ColumnPlus, RowPlus, Cell}
use Rattle.flow_law.specs.Tables.{TableValue, TablesValue, table_of}
use Rattle.flow_law.specs.Lines.{label_of, after_line, has_row, has_column, has_table}
use Rattle.change_script.specs.declared.applying.ApplyFault.{ApplyFault}
use Rattle.change_script.specs.declared.applying.ApplyFault.TheVariants.{KeyLength, Illegal, NoTarget, TargetThere}

abbrev pub wrong_key : Row → Row → Option ApplyFault
wrong_key constants key = if length key == length constants then None else Some (KeyLength (length constants) (length key))

-- the key of a line
abbrev pub key_fault : Row → TableLine → Option ApplyFault
key_fault constants (RowMinus label key) = wrong_key constants key
key_fault constants (RowPlus label key) = wrong_key constants key
key_fault constants (Cell label column value key) = wrong_key constants key
key_fault constants line = None

-- the label that a line adds
abbrev pub label_fault : Row → TableLine → Option ApplyFault
label_fault constants (TablePlus label) = if is_table_label label then None else Some (Illegal (record { table = label; column = None }))
label_fault constants (ColumnPlus label column) = if is_column_label column constants then None else Some (Illegal (record { table = label; column = Some column }))
label_fault constants line = None

-- whether the view can have the column of a line, which it names where it has a variable column
abbrev pub can_have : Option ℕ → TableLine → Bool
can_have spot (ColumnMinus label column) = is_some spot
can_have spot (ColumnPlus label column) = is_some spot
can_have spot (Cell label column value key) = is_some spot
can_have spot line = true

-- whether the row and the column that a line needs are there in its table
abbrev pub has_needed : TableLine → TableValue → Bool
has_needed (RowMinus label key) t = has_row key t
has_needed (ColumnMinus label column) t = has_column column t
has_needed (Cell label column value key) t = has_row key t && has_column column t
has_needed line t = true

-- whether the row or the column that a line adds is there
abbrev pub has_added : TableLine → TableValue → Bool
has_added (ColumnPlus label column) t = has_column column t
has_added (RowPlus label key) t = has_row key t
has_added line t = false

-- whether what a line needs is there
abbrev pub is_target_there : Option ℕ → TablesValue → TableLine → Bool
is_target_there spot ts (TablePlus label) = true
is_target_there spot ts line = can_have spot line && option_map_or (has_needed line) (table_of ts (label_of line)) false

-- whether what it adds is there
abbrev pub is_added_there : TablesValue → TableLine → Bool
is_added_there ts (TablePlus label) = has_table ts label
is_added_there ts line = option_map_or (has_added line) (table_of ts (label_of line)) false

-- the first of these, in this order
abbrev pub line_fault : Shape → TablesValue → TableLine → Option ApplyFault
line_fault shape ts line =
    option_or (key_fault shape.constants line)
    (option_or (label_fault shape.constants line)
    (option_or (if is_target_there shape.spot ts line then None else Some NoTarget)
    (if is_added_there ts line then Some TargetThere else None)))

abbrev pub unless : Option ApplyFault → TablesValue → Result TablesValue ApplyFault
unless None ts = Ok ts
unless (Some e) ts = Err e

-- the tables after a line
abbrev pub applied_line : Shape → TablesValue → TableLine → Result TablesValue ApplyFault
applied_line shape ts line = unless (line_fault shape ts line) (after_line ts line)

abbrev pub applied_behind : Shape → Result TablesValue ApplyFault → List TableLine → Result TablesValue ApplyFault
applied_behind shape r [] = r
applied_behind shape (Err e) (line ∷ lines) = Err e
applied_behind shape (Ok ts) (line ∷ lines) = applied_behind shape (applied_line shape ts line) lines

-- and after lines
abbrev pub applied : Shape → TablesValue → List TableLine → Result TablesValue ApplyFault
applied shape ts lines = applied_behind shape (Ok ts) lines
