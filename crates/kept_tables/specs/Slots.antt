-- Tables by their labels, with memory for those that may come.
use Rattle.std.specs.Prelude.{◌≡◌, ℕ, ◌+◌, ◌<◌, ◌≤◌, true, false, cond, List, [], ◌∷◌, map, Option, Some, None}
use Rattle.std.specs.List.{AllByRecursion}
use Rattle.std.specs.List.Sorted.{IsStrictlySortedBy}
use Rattle.ss_text.specs.Texts.{Text, text_cmp, text_eq}
use Rattle.flow_law.specs.declared.line.TableLine.{TableLine}
use Rattle.flow_law.specs.declared.line.TableLine.TheVariants.{TableMinus, TablePlus}
use Rattle.flow_law.specs.Tables.{TableValue, TablesValue, empty_table}
use Rattle.flow_law.specs.Lines.{label_of}
use Rattle.kept_tables.specs.Kept.{KeptTableValue, kept_table, kept_after, kept_for, one_row, one_column}
use Rattle.kept_tables.specs.declared.slot.Held.{Held as Slot}

abbrev pub slot_label : Slot → Text
slot_label s = s.label

-- the table, if it is there
abbrev pub table_there : Slot → Option KeptTableValue
table_there s = cond s.there (Some s.table) None

-- the tables that are there
abbrev pub tables_in : List Slot → TablesValue
tables_in [] = []
tables_in (s ∷ ss) = cond s.there ((s.label, s.table.table) ∷ tables_in ss) (tables_in ss)

-- a table that is not there has no columns and no rows
abbrev pub IsSlot : Slot → Type 0
IsSlot s = s.there ≡ false → s.table.table ≡ empty_table

-- labels ascend strictly
pub record AreSlots (ss : List Slot) : Type 0 where
  pub labels : IsStrictlySortedBy text_cmp (map slot_label ss)
  pub empty : AllByRecursion IsSlot ss

-- what slots of a label have of something together
abbrev pub under : (Slot → ℕ) → Text → List Slot → ℕ
under f label [] = 0
under f label (s ∷ ss) = cond (text_eq label s.label) (f s) 0 + under f label ss

abbrev pub one_slot : Slot → ℕ
one_slot s = 1

abbrev pub rows_room : Slot → ℕ
rows_room s = s.table.rows_coming

abbrev pub columns_room : Slot → ℕ
columns_room s = s.table.columns_coming

-- what lines of a label add of something together
abbrev pub added : (TableLine → ℕ) → Text → List TableLine → ℕ
added f label [] = 0
added f label (line ∷ lines) = cond (text_eq label (label_of line)) (f line) 0 + added f label lines

-- there is a slot for the label of each line, and memory for all rows and columns that lines add
pub record HaveRoom (lines : List TableLine) (ss : List Slot) : Type 0 where
  pub slots : AllByRecursion (λ (line : TableLine). 0 < under one_slot (label_of line) ss) lines
  pub rows : (label : Text) → added one_row label lines ≤ under rows_room label ss
  pub columns : (label : Text) → added one_column label lines ≤ under columns_room label ss

-- no table, and memory for none
abbrev pub new_slot : Text → Slot
new_slot label = record { label = label; there = false; table = kept_table empty_table 0 0 }

-- a table that is there, and memory for nothing more
abbrev pub full_slot : Text × TableValue → Slot
full_slot p = record { label = p.0; there = true; table = kept_table p.1 0 0 }

-- the slot after a line of its label
abbrev pub slot_after : TableLine → Slot → Slot
slot_after (TableMinus label) s = record s { there = false; table = kept_table empty_table s.table.rows_coming s.table.columns_coming }
slot_after (TablePlus label) s = record s { there = true }
slot_after line s = record s { table = kept_after line s.table }

-- with memory for what a line of its label adds
abbrev pub slot_for : TableLine → Slot → Slot
slot_for line s = record s { table = kept_for line s.table }

-- with memory for nothing more
abbrev pub slot_without : Slot → Slot
slot_without s = record s { table = kept_table s.table.table 0 0 }
