-- Tables in order: what is found at a label, and what changes there come to.
use Rattle.std.proofs.Common.{◌≡◌, ◌<◌, ◌∙◌, [], ℕ, Some, None, refl, sym, ap, subst, length, slice_index_or, slice_set}
use Rattle.std.specs.Prelude.{true, false, insert, remove}
use Rattle.std.specs.List.Sorted.{IsStrictlySortedBy}
use Rattle.std.specs.Option.{option_map_or}
use Rattle.std.proofs.lemmas.List.{get_or_read}
use Rattle.ss_text.specs.Texts.{Text, text_cmp}
use Rattle.ss_text.specs.Places.{at_place}
use Rattle.ss_text.specs.Keys.{IsPlaceOf, IsPlaceFor}
use Rattle.ss_text.proofs.PlaceLemmas.{each_at, each_at_place, map_at_place, put_back}
use Rattle.ss_text.proofs.KeyLemmas.{text_order, changed_at, removed_at, placed_for, ascends_removed, ascends_placed, lacks_for, lookup_at, lookup_lacks}
use Rattle.flow_law.specs.Tables.{TableValue, TablesValue, empty_table, table_of, tables_at, label_in}
use Rattle.flow_law.specs.InOrder.{IsTable, AreTables}
use Rattle.flow_law.specs.Lines.{without_table, with_table, at_table, fits_label, fits_table, label_of, table_after}
use Rattle.flow_law.specs.declared.line.TableLine.{TableLine}
use Rattle.flow_law.proofs.TableLemmas.{empty_in_order, line_in_order, all_removed, all_inserted}

pub none_in_order : AreTables []
unfolding IsStrictlySortedBy
none_in_order = record { labels = tt; tables = tt }

-- the table of a label at its place
pub table_found : (ts : TablesValue) (label : Text) (i : ℕ) → AreTables ts → IsPlaceOf label_in label ts i → table_of ts label ≡ Some (tables_at i ts).1
table_found ts label i h at = lookup_at text_order label ts i ([], empty_table) h.labels at

pub table_missing : (ts : TablesValue) (label : Text) (i : ℕ) → IsPlaceFor text_cmp label_in label ts i → table_of ts label ≡ None
table_missing ts label i gap = lookup_lacks text_order label ts (lacks_for text_order label_in label ts i gap)

-- changes at a place
pub table_removed : (ts : TablesValue) (label : Text) (i : ℕ) → AreTables ts → IsPlaceOf label_in label ts i → without_table label ts ≡ remove ts i
table_removed ts label i h at = removed_at text_order label_in label ts i h.labels at

pub table_placed : (ts : TablesValue) (label : Text) (i : ℕ) → IsPlaceFor text_cmp label_in label ts i → with_table label ts ≡ insert ts i (label, empty_table)
table_placed ts label i gap = placed_for text_order label_in (label, empty_table) ts i gap

pub table_changed : (ts : TablesValue) (label : Text) (f : TableValue → TableValue) (i : ℕ) → AreTables ts → IsPlaceOf label_in label ts i → at_table label f ts ≡ at_place i (λ p. (p.0, f p.1)) ts
table_changed ts label f i h at = changed_at text_order label_in label (λ p. (p.0, f p.1)) ts i h.labels at

-- each stays in order
pub table_removed_in_order : (ts : TablesValue) (i : ℕ) → AreTables ts → AreTables (remove ts i)
table_removed_in_order ts i h = record { labels = ascends_removed text_order label_in ts i h.labels; tables = all_removed (λ (p : Text × TableValue). IsTable p.1) ts i h.tables }

pub table_placed_in_order : (ts : TablesValue) (label : Text) (i : ℕ) → AreTables ts → IsPlaceFor text_cmp label_in label ts i → AreTables (insert ts i (label, empty_table))
table_placed_in_order ts label i h gap = record {
  labels = ascends_placed text_order label_in (label, empty_table) ts i h.labels gap;
  tables = all_inserted (λ (p : Text × TableValue). IsTable p.1) ts i (label, empty_table) empty_in_order h.tables;
}

pub table_at_in_order : (ts : TablesValue) (i : ℕ) → AreTables ts → i < length ts → IsTable (tables_at i ts).1
table_at_in_order ts i h lt = each_at (λ (p : Text × TableValue). IsTable p.1) ts i ([], empty_table) lt h.tables

pub table_changed_in_order : (ts : TablesValue) (f : TableValue → TableValue) (i : ℕ) → AreTables ts → IsTable (f (tables_at i ts).1) → AreTables (at_place i (λ p. (p.0, f p.1)) ts)
table_changed_in_order ts f i h new = record {
  labels = rw (map_at_place label_in (λ p. (p.0, f p.1)) (λ p. refl) ts i) h.labels;
  tables = each_at_place (λ (p : Text × TableValue). IsTable p.1) ts i ([], empty_table) (λ p. (p.0, f p.1)) h.tables new;
}

-- whether a line fits, where its label is found and where it is not
pub fits_found : (ts : TablesValue) (line : TableLine) (i : ℕ) → AreTables ts → IsPlaceOf label_in (label_of line) ts i → fits_label ts line ≡ fits_table line (tables_at i ts).1
fits_found ts line i h at = ap (λ t. option_map_or (fits_table line) t false) (table_found ts (label_of line) i h at)

pub fits_missing : (ts : TablesValue) (line : TableLine) (i : ℕ) → IsPlaceFor text_cmp label_in (label_of line) ts i → fits_label ts line ≡ false
fits_missing ts line i gap = ap (λ t. option_map_or (fits_table line) t false) (table_missing ts (label_of line) i gap)

-- a line's step, made in its table and put back
module _ (ts : TablesValue) (line : TableLine) (i : ℕ) (h : AreTables ts) (at : IsPlaceOf label_in (label_of line) ts i) (fits : fits_label ts line ≡ true) (p : Text × TableValue) (read : p ≡ slice_index_or ts i p) where
  pub fits_read : fits_table line p.1 ≡ true
  fits_read = ap (λ (q : Text × TableValue). fits_table line q.1) (get_or_read ts i p at.within read ([], empty_table)) ∙ sym (fits_found ts line i h at) ∙ fits

  module _ (new : TableValue) (made : new ≡ table_after line p.1) where
    written : slice_set ts i (p.0, new) ≡ at_place i (λ q. (q.0, table_after line q.1)) ts
    written = put_back ts i p (p.0, new) (λ q. (q.0, table_after line q.1)) at.within read (ap (λ t. (p.0, t)) made)

    pub line_made : slice_set ts i (p.0, new) ≡ at_table (label_of line) (table_after line) ts
    line_made = written ∙ sym (table_changed ts (label_of line) (table_after line) i h at)

    pub line_made_in_order : AreTables (slice_set ts i (p.0, new))
    line_made_in_order =
        subst AreTables (sym written)
        (table_changed_in_order ts (table_after line) i h (line_in_order line (tables_at i ts).1 (table_at_in_order ts i h at.within) (sym (fits_found ts line i h at) ∙ fits)))
