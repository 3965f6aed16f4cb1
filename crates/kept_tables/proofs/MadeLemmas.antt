-- What a line that is made at its slot comes to.
use Rattle.std.proofs.Common.{◌≡◌, ◌<◌, ◌∙◌, ℕ, Bool, true, false, List, Some, None, refl, sym, ap, length, get_or}
use Rattle.std.specs.Prelude.{cond}
use Rattle.std.specs.Option.{option_map_or}
use Rattle.std.proofs.lemmas.Bool.{false≢true, not-true}
use Rattle.ss_text.specs.Places.{at_place}
use Rattle.ss_text.specs.Keys.{IsPlaceOf}
use Rattle.ss_text.proofs.PlaceLemmas.{map_at_place, each_at, each_at_place}
use Rattle.flow_law.specs.declared.line.TableLine.{TableLine}
use Rattle.flow_law.specs.declared.line.TableLine.TheVariants.{TableMinus, TablePlus, RowMinus, ColumnMinus, ColumnPlus, RowPlus, Cell}
use Rattle.flow_law.specs.Tables.{TableValue, empty_table}
use Rattle.flow_law.specs.Lines.{has_table, label_of, table_after, fits_table, fits_label, fits_line, after_line}
use Rattle.kept_tables.specs.declared.slot.Held.{Held as Slot}
use Rattle.kept_tables.specs.Slots.{slot_label, tables_in, IsSlot, AreSlots, slot_after}
use Rattle.kept_tables.proofs.SlotLemmas.{came, went, changed, table_at, has_at}
use Rattle.kept_tables.proofs.RoomLemmas.{label_stays}

-- whether a line needs its table to be there
abbrev pub wants : TableLine → Bool
wants (TablePlus label) = false
wants line = true

-- a line that fits the table of a slot, if it is there
fits_seen : (line : TableLine) (there : Bool) (t : TableValue) → option_map_or (fits_table line) (cond there (Some t) None) false ≡ true → there ≡ true × fits_table line t ≡ true
fits_seen line true t h = (refl, h)
fits_seen line false t h = absurd (false≢true h)

module _ (line : TableLine) (ss : List Slot) (i : ℕ) (d : Slot) (h : AreSlots ss) (at : IsPlaceOf slot_label (label_of line) ss i) where
  fits_there : fits_label (tables_in ss) line ≡ true → (get_or ss i d).there ≡ true × fits_table line (get_or ss i d).table.table ≡ true
  fits_there fits =
      fits_seen line (get_or ss i d).there (get_or ss i d).table.table (ap (λ t. option_map_or (fits_table line) t false) (sym (table_at (label_of line) ss i d h.labels at)) ∙ fits)

-- a line that fits finds its table there, or not there where it adds it, and fits the table
pub fits_slot : (line : TableLine) (ss : List Slot) (i : ℕ) (d : Slot) → AreSlots ss → IsPlaceOf slot_label (label_of line) ss i → fits_line (tables_in ss) line ≡ true
    → (get_or ss i d).there ≡ wants line × fits_table line (get_or ss i d).table.table ≡ true
fits_slot (TableMinus label) ss i d h at fits = (sym (has_at label ss i d h.labels at) ∙ fits, refl)
fits_slot (TablePlus label) ss i d h at fits = (sym (has_at label ss i d h.labels at) ∙ not-true (has_table (tables_in ss) label) fits, refl)
fits_slot (RowMinus label key) ss i d h at fits = fits_there (RowMinus label key) ss i d h at fits
fits_slot (ColumnMinus label column) ss i d h at fits = fits_there (ColumnMinus label column) ss i d h at fits
fits_slot (ColumnPlus label column) ss i d h at fits = fits_there (ColumnPlus label column) ss i d h at fits
fits_slot (RowPlus label key) ss i d h at fits = fits_there (RowPlus label key) ss i d h at fits
fits_slot (Cell label column value key) ss i d h at fits = fits_there (Cell label column value key) ss i d h at fits

-- the empty table of a slot that has none
empty_at : (ss : List Slot) (i : ℕ) (d : Slot) → AreSlots ss → i < length ss → (get_or ss i d).there ≡ false → (get_or ss i d).table.table ≡ empty_table
empty_at ss i d h lt dark = each_at IsSlot ss i d lt h.empty dark

-- the tables after the line
pub tables_made : (line : TableLine) (ss : List Slot) (i : ℕ) (d : Slot) → AreSlots ss → IsPlaceOf slot_label (label_of line) ss i → (get_or ss i d).there ≡ wants line
    → tables_in (at_place i (slot_after line) ss) ≡ after_line (tables_in ss) line
tables_made (TableMinus label) ss i d h at there = went label (slot_after (TableMinus label)) ss i d h.labels at there refl
tables_made (TablePlus label) ss i d h at there = came label (slot_after (TablePlus label)) ss i d h.labels at there refl (at.has_key d) (empty_at ss i d h at.within there)
tables_made (RowMinus label key) ss i d h at there = changed label (table_after (RowMinus label key)) (slot_after (RowMinus label key)) ss i d h.labels at there there (at.has_key d) refl
tables_made (ColumnMinus label column) ss i d h at there = changed label (table_after (ColumnMinus label column)) (slot_after (ColumnMinus label column)) ss i d h.labels at there there (at.has_key d) refl
tables_made (ColumnPlus label column) ss i d h at there = changed label (table_after (ColumnPlus label column)) (slot_after (ColumnPlus label column)) ss i d h.labels at there there (at.has_key d) refl
tables_made (RowPlus label key) ss i d h at there = changed label (table_after (RowPlus label key)) (slot_after (RowPlus label key)) ss i d h.labels at there there (at.has_key d) refl
tables_made (Cell label column value key) ss i d h at there = changed label (table_after (Cell label column value key)) (slot_after (Cell label column value key)) ss i d h.labels at there there (at.has_key d) refl

-- the slot stays one
lit_slot : (s : Slot) → s.there ≡ true → IsSlot s
lit_slot s lit dark = absurd (false≢true (sym dark ∙ lit))

slot_stays : (line : TableLine) (s : Slot) → s.there ≡ wants line → IsSlot (slot_after line s)
slot_stays (TableMinus label) s there = λ dark. refl
slot_stays (TablePlus label) s there = lit_slot (slot_after (TablePlus label) s) refl
slot_stays (RowMinus label key) s there = lit_slot (slot_after (RowMinus label key) s) there
slot_stays (ColumnMinus label column) s there = lit_slot (slot_after (ColumnMinus label column) s) there
slot_stays (ColumnPlus label column) s there = lit_slot (slot_after (ColumnPlus label column) s) there
slot_stays (RowPlus label key) s there = lit_slot (slot_after (RowPlus label key) s) there
slot_stays (Cell label column value key) s there = lit_slot (slot_after (Cell label column value key) s) there

pub slots_made : (line : TableLine) (ss : List Slot) (i : ℕ) (d : Slot) → AreSlots ss → (get_or ss i d).there ≡ wants line → AreSlots (at_place i (slot_after line) ss)
slots_made line ss i d h there = record {
  labels = rw (map_at_place slot_label (slot_after line) (label_stays line) ss i) h.labels;
  empty = each_at_place IsSlot ss i d (slot_after line) h.empty (slot_stays line (get_or ss i d) there);
}
