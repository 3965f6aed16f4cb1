-- Tables in order: what their lines change at a place, and that they stay in order.
use Rattle.std.proofs.Common.{◌≡◌, ◌<◌, ◌∷◌, ◌∙◌, [], ℕ, List, refl, sym, ap, subst, zero, suc, length, map, arith, replicate, length-set}
use Rattle.std.specs.Prelude.{Bool, true, false, not, ◌&&◌, insert, remove}
use Rattle.std.specs.List.{AllByRecursion}
use Rattle.std.specs.List.Sorted.{IsStrictlySortedBy}
use Rattle.std.proofs.lemmas.List.{map-id, length-replicate}
use Rattle.std.proofs.lemmas.List.Edits.{length-insert, length-remove}
use Rattle.ss_text.specs.Texts.{Text, Row, text_cmp, row_cmp}
use Rattle.ss_text.specs.Places.{at_place}
use Rattle.ss_text.specs.Keys.{IsPlaceOf, IsPlaceFor}
use Rattle.ss_text.proofs.PlaceLemmas.{each_at, each_at_place, map_at_place}
use Rattle.ss_text.proofs.KeyLemmas.{text_order, row_order, changed_at, removed_at, placed_for, count_at, count_for, ascends_removed, ascends_placed, place_there, place_missing}
use Rattle.flow_law.specs.Tables.{TableValue, table_value, empty_table, row_at, key_of}
use Rattle.flow_law.specs.InOrder.{IsTable}
use Rattle.flow_law.specs.Lines.{without_row, with_row, without_column, with_column, with_cell, with_cell_at, without_cell, with_empty_cell, column_place, has_row, has_column, fits_table, table_after}
use Rattle.flow_law.specs.declared.line.TableLine.{TableLine}
use Rattle.flow_law.specs.declared.line.TableLine.TheVariants.{TableMinus, TablePlus, RowMinus, ColumnMinus, ColumnPlus, RowPlus, Cell}

is_false : (b : Bool) → not b ≡ true → b ≡ false
is_false true h = absurd (cc)
is_false false h = refl

first_holds : (a b : Bool) → (a && b) ≡ true → a ≡ true
first_holds true b h = refl
first_holds false b h = absurd (cc)

second_holds : (a b : Bool) → (a && b) ≡ true → b ≡ true
second_holds true b h = h
second_holds false b h = absurd (cc)

pub empty_in_order : IsTable empty_table
unfolding IsStrictlySortedBy
empty_in_order = record { columns = tt; keys = tt; cells = tt }

-- changes at a place
pub row_removed : (t : TableValue) (key : Row) (i : ℕ) → IsTable t → IsPlaceOf key_of key t.rows i → without_row key t ≡ table_value t.columns (remove t.rows i)
row_removed t key i h at = ap (table_value t.columns) (removed_at row_order key_of key t.rows i h.keys at)

pub row_placed : (t : TableValue) (key : Row) (i : ℕ) → IsPlaceFor row_cmp key_of key t.rows i → with_row key t ≡ table_value t.columns (insert t.rows i (key, replicate (length t.columns) []))
row_placed t key i gap = ap (table_value t.columns) (placed_for row_order key_of (key, replicate (length t.columns) []) t.rows i gap)

-- columns are their own keys
pub own_keys : (columns : Row) → IsStrictlySortedBy text_cmp columns → IsStrictlySortedBy text_cmp (map (λ c. c) columns)
own_keys columns h = rw (map-id columns) h

from_own_keys : (columns : Row) → IsStrictlySortedBy text_cmp (map (λ c. c) columns) → IsStrictlySortedBy text_cmp columns
from_own_keys columns h = rw (map-id columns) at h

pub place_of_column : (t : TableValue) (column : Text) (k : ℕ) → IsTable t → IsPlaceOf (λ c. c) column t.columns k → column_place column t.columns ≡ k
place_of_column t column k h at = count_at text_order (λ c. c) column t.columns k (own_keys t.columns h.columns) at

pub column_removed : (t : TableValue) (column : Text) (k : ℕ) → IsTable t → IsPlaceOf (λ c. c) column t.columns k → without_column column t ≡ table_value (remove t.columns k) (map (without_cell k) t.rows)
column_removed t column k h at = ap (λ n. table_value (remove t.columns n) (map (without_cell n) t.rows)) (place_of_column t column k h at)

pub column_placed : (t : TableValue) (column : Text) (k : ℕ) → IsPlaceFor text_cmp (λ c. c) column t.columns k → with_column column t ≡ table_value (insert t.columns k column) (map (with_empty_cell k) t.rows)
column_placed t column k gap = ap (λ n. table_value (insert t.columns n column) (map (with_empty_cell n) t.rows)) (count_for text_order (λ c. c) column t.columns k gap)

pub cell_set : (t : TableValue) (key : Row) (column value : Text) (i k : ℕ) → IsTable t → IsPlaceOf key_of key t.rows i → IsPlaceOf (λ c. c) column t.columns k
    → with_cell key column value t ≡ table_value t.columns (at_place i (with_cell_at k value) t.rows)
cell_set t key column value i k h row_at column_at =
    ap (table_value t.columns) (changed_at row_order key_of key (with_cell_at (column_place column t.columns) value) t.rows i h.keys row_at
    ∙ ap (λ n. at_place i (with_cell_at n value) t.rows) (place_of_column t column k h column_at))

-- each stays in order
pub all_removed : {A : Type 0} (P : A → Type 0) (xs : List A) (i : ℕ) → AllByRecursion P xs → AllByRecursion P (remove xs i)
all_removed P [] zero h = tt
all_removed P [] (suc i) h = tt
all_removed P (x ∷ xs) zero h = h.1
all_removed P (x ∷ xs) (suc i) h = (h.0, all_removed P xs i h.1)

pub all_inserted : {A : Type 0} (P : A → Type 0) (xs : List A) (i : ℕ) (x : A) → P x → AllByRecursion P xs → AllByRecursion P (insert xs i x)
all_inserted P xs zero x p h = (p, h)
all_inserted P [] (suc i) x p h = (p, tt)
all_inserted P (y ∷ ys) (suc i) x p h = (h.0, all_inserted P ys i x p h.1)

all_mapped : {A B : Type 0} (P : A → Type 0) (Q : B → Type 0) (f : A → B) → ((x : A) → P x → Q (f x)) → (xs : List A) → AllByRecursion P xs → AllByRecursion Q (map f xs)
all_mapped P Q f step [] h = tt
all_mapped P Q f step (x ∷ xs) h = (step x h.0, all_mapped P Q f step xs h.1)

pub row_removed_in_order : (t : TableValue) (i : ℕ) → IsTable t → IsTable (table_value t.columns (remove t.rows i))
row_removed_in_order t i h = record {
  columns = h.columns;
  keys = ascends_removed row_order key_of t.rows i h.keys;
  cells = all_removed (λ (r : Row × Row). length r.1 ≡ length t.columns) t.rows i h.cells;
}

pub row_placed_in_order : (t : TableValue) (key cells : Row) (i : ℕ) → IsTable t → IsPlaceFor row_cmp key_of key t.rows i → length cells ≡ length t.columns → IsTable (table_value t.columns (insert t.rows i (key, cells)))
row_placed_in_order t key cells i h gap same = record {
  columns = h.columns;
  keys = ascends_placed row_order key_of (key, cells) t.rows i h.keys gap;
  cells = all_inserted (λ (r : Row × Row). length r.1 ≡ length t.columns) t.rows i (key, cells) same h.cells;
}

keys_stay : (f : Row × Row → Row × Row) → ((r : Row × Row) → key_of (f r) ≡ key_of r) → (rows : List (Row × Row)) → map key_of (map f rows) ≡ map key_of rows
keys_stay f same [] = refl
keys_stay f same (r ∷ rs) = rw (same r, keys_stay f same rs) refl

pub column_removed_in_order : (t : TableValue) (k : ℕ) → IsTable t → k < length t.columns → IsTable (table_value (remove t.columns k) (map (without_cell k) t.rows))
column_removed_in_order t k h lt = record {
  columns = from_own_keys (remove t.columns k) (ascends_removed text_order (λ c. c) t.columns k (own_keys t.columns h.columns));
  keys = rw (keys_stay (without_cell k) (λ r. refl) t.rows) h.keys;
  cells = all_mapped (λ (r : Row × Row). length r.1 ≡ length t.columns) (λ (r : Row × Row). length r.1 ≡ length (remove t.columns k)) (without_cell k) (λ r e. shorter r.1 e) t.rows h.cells;
}
  where
    shorter : (cells : Row) → length cells ≡ length t.columns → length (remove cells k) ≡ length (remove t.columns k)
    shorter cells e = omega (arith, length-remove cells k (omega arith), length-remove t.columns k lt)

pub column_placed_in_order : (t : TableValue) (column : Text) (k : ℕ) → IsTable t → IsPlaceFor text_cmp (λ c. c) column t.columns k → IsTable (table_value (insert t.columns k column) (map (with_empty_cell k) t.rows))
column_placed_in_order t column k h gap = record {
  columns = from_own_keys (insert t.columns k column) (ascends_placed text_order (λ c. c) column t.columns k (own_keys t.columns h.columns) gap);
  keys = rw (keys_stay (with_empty_cell k) (λ r. refl) t.rows) h.keys;
  cells = all_mapped (λ (r : Row × Row). length r.1 ≡ length t.columns) (λ (r : Row × Row). length r.1 ≡ length (insert t.columns k column)) (with_empty_cell k) (λ r e. longer r.1 e) t.rows h.cells;
}
  where
    longer : (cells : Row) → length cells ≡ length t.columns → length (insert cells k []) ≡ length (insert t.columns k column)
    longer cells e = omega (arith, length-insert cells k [] (omega (arith, gap.within)), length-insert t.columns k column gap.within)

pub cell_set_in_order : (t : TableValue) (value : Text) (i k : ℕ) → IsTable t → i < length t.rows → IsTable (table_value t.columns (at_place i (with_cell_at k value) t.rows))
cell_set_in_order t value i k h lt = record {
  columns = h.columns;
  keys = rw (map_at_place key_of (with_cell_at k value) (λ r. refl) t.rows i) h.keys;
  cells = each_at_place (λ (r : Row × Row). length r.1 ≡ length t.columns) t.rows i ([], []) (with_cell_at k value) h.cells
      (rw (length-set (row_at i t).1 k value) (each_at (λ (r : Row × Row). length r.1 ≡ length t.columns) t.rows i ([], []) lt h.cells));
}

-- a row of the table has a cell for each column
pub row_fits : (t : TableValue) (i : ℕ) → IsTable t → i < length t.rows → length (row_at i t).1 ≡ length t.columns
row_fits t i h lt = each_at (λ (r : Row × Row). length r.1 ≡ length t.columns) t.rows i ([], []) lt h.cells

-- a table after a line that fits it
pub line_in_order : (line : TableLine) (t : TableValue) → IsTable t → fits_table line t ≡ true → IsTable (table_after line t)
line_in_order (TableMinus label) t h fits = h
line_in_order (TablePlus label) t h fits = h
line_in_order (RowMinus label key) t h fits =
    let place = place_there row_order key_of key t.rows fits in
    subst IsTable (sym (row_removed t key place.0 h place.1)) (row_removed_in_order t place.0 h)
line_in_order (ColumnMinus label column) t h fits =
    let place = place_there text_order (λ (c : Text). c) column t.columns fits in
    subst IsTable (sym (column_removed t column place.0 h place.1)) (column_removed_in_order t place.0 h place.1.within)
line_in_order (ColumnPlus label column) t h fits =
    let place = place_missing text_order (λ (c : Text). c) column t.columns (own_keys t.columns h.columns) (is_false (has_column column t) fits) in
    subst IsTable (sym (column_placed t column place.0 place.1)) (column_placed_in_order t column place.0 h place.1)
line_in_order (RowPlus label key) t h fits =
    let place = place_missing row_order key_of key t.rows h.keys (is_false (has_row key t) fits) in
    subst IsTable (sym (row_placed t key place.0 place.1)) (row_placed_in_order t key (replicate (length t.columns) []) place.0 h place.1 (length-replicate (length t.columns) []))
line_in_order (Cell label column value key) t h fits =
    let row = place_there row_order key_of key t.rows (first_holds (has_row key t) (has_column column t) fits) in
    let cell = place_there text_order (λ (c : Text). c) column t.columns (second_holds (has_row key t) (has_column column t) fits) in
    subst IsTable (sym (cell_set t key column value row.0 cell.0 h row.1 cell.1)) (cell_set_in_order t value row.0 cell.0 h row.1.within)
