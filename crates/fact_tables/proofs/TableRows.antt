-- The rows of a table, key by key, and the tables, label by label.
use Rattle.std.proofs.Common.{◌≡◌, ◌+◌, ℕ, List, [], ◌∷◌, ◌++◌, Some, None, take, drop, refl, sym, ap, ◌∙◌, arith}
use Rattle.std.specs.Prelude.{slice_get}
use Rattle.std.specs.List.{filter_map, prefix_len}
use Rattle.std.specs.List.Sorted.{IsStrictlySortedBy}
use Rattle.ss_text.specs.Texts.{Row, text_cmp, row_eq}
use Rattle.ss_text.specs.Ascending.{ascending}
use Rattle.ss_text.proofs.KeyLemmas.{text_order, row_order}
use Rattle.ss_text.proofs.GroupWalk.{entries_of, own_sorted, one_more_entry, all_entries}
use Rattle.flow_law.specs.Facts.{Fact, column_of}
use Rattle.flow_law.specs.FactOrder.{by_cell, by_key}
use Rattle.flow_law.specs.Tables.{TableValue, TablesValue, table_value}
use Rattle.flow_law.specs.FactTables.{fact_table}
use Rattle.fact_tables.specs.Cells.{cells_for, rows_for}

abbrev pub columns_of : List Fact → Row
columns_of fs = ascending text_cmp (filter_map column_of fs)

-- a row for each key of these facts
abbrev pub rows_of : Row → List Fact → List (Row × Row)
rows_of columns fs = entries_of row_order (λ (f : Fact). f.key) by_cell (cells_for columns) fs

table_of_rows : (fs : List Fact) → table_value (columns_of fs) (rows_of (columns_of fs) fs) ≡ fact_table fs
table_of_rows fs = refl

-- no fact is left
pub filled : (t : TableValue) (columns : Row) (fs : List Fact) (from : ℕ) → None ≡ slice_get fs from → columns ≡ columns_of fs → t.columns ≡ columns
    → t.rows ++ rows_of columns (drop from fs) ≡ rows_of columns fs → t ≡ fact_table fs
filled t columns fs from none is same rows =
    let all = all_entries row_order (λ (f : Fact). f.key) by_cell (cells_for columns) fs from t.rows none rows in
    ap (λ (cs : Row). table_value cs t.rows) (same ∙ is) ∙ ap (table_value (columns_of fs)) (rw is at all)

-- a table for each label of these facts
abbrev pub tables_of : List Fact → TablesValue
tables_of fs = entries_of text_order (λ (f : Fact). f.label) by_key fact_table fs

-- the rows from the first key on
pub no_row : (columns : Row) (fs : List Fact) → None ≡ slice_get fs 0 → rows_for columns fs ≡ []
no_row columns fs none = sym (all_entries row_order (λ (f : Fact). f.key) by_cell (cells_for columns) fs 0 [] none refl)

module _ (fs : List Fact) (sorted : IsStrictlySortedBy by_key fs) (first : Fact) (is : Some first ≡ slice_get fs 0)
    (count : ℕ) (counts : count ≡ prefix_len (λ (f : Fact). row_eq first.key f.key) fs) where
  pub first_sorted : IsStrictlySortedBy by_cell (take count fs)
  first_sorted = own_sorted row_order (λ (f : Fact). f.key) by_cell (cells_for []) fs sorted 0 first is count counts

  pub next_row : (columns : Row) → rows_for columns fs ≡ (first.key, cells_for columns (take count fs)) ∷ rows_for columns (drop count fs)
  next_row columns =
      let none_before : 0 + count ≡ count = omega arith in
      sym (one_more_entry row_order (λ (f : Fact). f.key) by_cell (cells_for columns) fs sorted 0 first is count counts [] refl)
      ∙ ap (λ n. (first.key, cells_for columns (take count fs)) ∷ rows_for columns (drop n fs)) none_before
