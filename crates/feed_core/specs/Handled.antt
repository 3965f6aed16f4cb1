-- What was handled, with its reply, and the rows by which it is kept.
use Rattle.std.specs.Prelude.{◌≡◌, ℕ, List, [], ◌∷◌, map, Option, Some, None, Ok, Err, codes, if◌then◌else◌}
use Rattle.std.specs.Global.{Box}
use Rattle.ss_text.specs.Texts.{Text, Row, text_eq}
use Rattle.schema_model.specs.Reading.{Read, change_of}
use Rattle.schema_model.specs.declared.change.Change.{Change}
use Rattle.schema_model.specs.declared.change.Change.TheVariants.{CreateDatabase}
use Rattle.flow_law.specs.declared.line.TableLine.{TableLine}
use Rattle.flow_law.specs.declared.line.TableLine.TheVariants.{TableMinus, TablePlus, RowMinus, ColumnMinus, ColumnPlus, RowPlus, Cell}
use Rattle.apply_law.specs.declared.refused.GroupRefused.{GroupRefused}
use Rattle.apply_law.specs.declared.refused.GroupRefused.TheVariants as refused
use Rattle.feed_core.specs.declared.arrival.Arrival.{Arrival}
use Rattle.feed_core.specs.declared.refusal.KeptRefusal.{KeptRefusal}
use Rattle.feed_core.specs.declared.refusal.KeptRefusal.TheVariants as kept
use Rattle.feed_core.specs.Replies.{ReplyValue}

-- an arrival that was handled, and what was replied
pub record Handled : Type 0 where
  pub arrival : Arrival
  pub reply : ReplyValue

-- a script's line by the fields behind its verb; other fields are never kept
abbrev pub table_line : (Text → TableLine) → Row → TableLine
table_line line (label ∷ fields) = line label
table_line line [] = TableMinus []

abbrev pub row_line : (Text → Row → TableLine) → Row → TableLine
row_line line (label ∷ key) = line label key
row_line line [] = TableMinus []

abbrev pub column_line : (Text → Text → TableLine) → Row → TableLine
column_line line (label ∷ column ∷ fields) = line label column
column_line line fields = TableMinus []

abbrev pub cell_line : Row → TableLine
cell_line (label ∷ column ∷ value ∷ key) = Cell label column value key
cell_line fields = TableMinus []

-- and by its printed row
abbrev pub line_in : Row → TableLine
line_in [] = TableMinus []
line_in (name ∷ fields) =
    if text_eq name (codes "table-") then table_line TableMinus fields else
    if text_eq name (codes "table+") then table_line TablePlus fields else
    if text_eq name (codes "row-") then row_line RowMinus fields else
    if text_eq name (codes "column-") then column_line ColumnMinus fields else
    if text_eq name (codes "column+") then column_line ColumnPlus fields else
    if text_eq name (codes "row+") then row_line RowPlus fields else cell_line fields

-- the rows of what was handled: the first is the line of its change, the others are those of its script
abbrev pub first_row : List Row → Row
first_row [] = []
first_row (row ∷ rows) = row

abbrev pub change_by : Read → Change
change_by (Ok g) = g
change_by (Err e) = CreateDatabase []

abbrev pub change_in : List Row → Change
change_in rows = change_by (change_of (first_row rows))

abbrev pub lines_in : List Row → List TableLine
lines_in [] = []
lines_in (row ∷ rows) = map line_in rows

-- why a change was refused, by what is kept of it
abbrev pub refusal_in : KeptRefusal → GroupRefused
refusal_in (kept.Change place r) = refused.Change place r
refusal_in (kept.Other e) = e.value

abbrev pub reply_in : List Row → Option (Box KeptRefusal) → ReplyValue
reply_in rows None = Ok (lines_in rows)
reply_in rows (Some e) = Err (refusal_in e.value)

-- what is kept of an arrival, as what was handled
abbrev pub handled_by : Text → ℕ → List Row → Option (Box KeptRefusal) → Handled
handled_by source number rows e = record { arrival = record { source = source; number = number; change = change_in rows }; reply = reply_in rows e }

-- the first row is the line of a change
abbrev pub HasChange : List Row → Type 0
HasChange rows = change_of (first_row rows) ≡ Ok (change_in rows)
