-- What one line changes in a table: its columns, its keys and its cells.
use Rattle.std.proofs.Common.{◌≡◌, ◌∷◌, [], ℕ, Bool, true, false, cond, List, Option, Some, None, refl, sym, ◌∙◌, ap, subst, zero, suc, length, map, replicate, slice_set}
use Rattle.std.specs.Prelude.{not, ◌&&◌, ◌||◌, insert, remove, filter, unwrap_or, option_map, is_some}
use Rattle.std.specs.List.{AllByRecursion, list_any}
use Rattle.std.specs.Map.{lookup, keys_of}
use Rattle.std.proofs.lemmas.Bool.{false≢true}
use Rattle.ss_text.specs.Texts.{Text, Row, text_eq, row_eq, row_cmp, is_in}
use Rattle.std.specs.declared.cmp.Ordering.TheVariants.{Less, Equal, Greater}
use Rattle.ss_text.specs.Ascending.{by_order, with_element}
use Rattle.ss_text.specs.Places.{changed_where}
use Rattle.ss_text.specs.Keys.{IsPlaceOf}
use Rattle.ss_text.proofs.KeyLemmas.{text_order, row_order, removed_at, place_there, place_missing, Lacks, lacks_for, lookup_lacks, equal_is}
use Rattle.ss_text.proofs.PairLemmas.{lookup_kept, lookup_mapped, lookup_changed, lookup_inserted, any_filtered, any_with, found_any, same_keys, same_pairs}
use Rattle.flow_law.specs.Tables.{TableValue, table_value, key_of, row_keys, cell_in, cells_of, cell_of}
use Rattle.flow_law.specs.InOrder.{IsTable}
use Rattle.flow_law.specs.Lines.{without_row, with_row, without_column, with_column, with_cell, with_cell_at, column_place, by_key, has_row, has_column}
use Rattle.flow_law.proofs.TableLemmas.{own_keys, column_removed, column_placed, row_placed, place_of_column}
use Rattle.flow_law.proofs.CellLemmas.{missing, cell_of_none, cell_of_empty, cell_kept, cell_with_column, cell_written, same_cells, found_none}

-- whether a key is there
abbrev pub has_key : Row → TableValue → Bool
has_key q t = list_any (row_eq q) (row_keys t)

pub key_is_there : (q : Row) (t : TableValue) → has_row q t ≡ has_key q t
key_is_there q t = any_key t.rows
  where
    any_key : (rows : List (Row × Row)) → list_any (λ (r : Row × Row). row_eq q r.0) rows ≡ list_any (row_eq q) (keys_of rows)
    any_key [] = refl
    any_key (r ∷ rs) = ap (λ b. row_eq q r.0 || b) (any_key rs)

-- the cells of a row have one for each column
found_fits : (n : ℕ) (rows : List (Row × Row)) (q : Row) (cells : Row) → AllByRecursion (λ (r : Row × Row). length r.1 ≡ n) rows → lookup (row_eq q) rows ≡ Some cells → length cells ≡ n
found_fits n [] q cells h e = absurd (cc)
found_fits n (r ∷ rs) q cells h e = split (row_eq q r.0) refl (found_fits n rs q cells h.1)
  where
    split : (b : Bool) → row_eq q r.0 ≡ b → (lookup (row_eq q) rs ≡ Some cells → length cells ≡ n) → length cells ≡ n
    split true s rest =
        let same : Some r.1 ≡ Some cells = rw s at e in
        let at : r.1 ≡ cells = cc in
        subst (λ (v : Row). length v ≡ n) at h.0
    split false s rest = rest (rw s at e)

-- cells that are changed alike in each row
mapped_cell : (columns others : Row) (f : Row → Row) (rows : List (Row × Row)) (q : Row) (c : Text) (n : ℕ) → AllByRecursion (λ (r : Row × Row). length r.1 ≡ n) rows
    → ((cells : Row) → length cells ≡ n → cell_in others (f cells) c ≡ cell_in columns cells c)
    → cell_in others (unwrap_or (lookup (row_eq q) (map (λ (r : Row × Row). (r.0, f r.1)) rows)) []) c ≡ cell_in columns (unwrap_or (lookup (row_eq q) rows) []) c
mapped_cell columns others f rows q c n fits step = ap (λ (o : Option Row). cell_in others (unwrap_or o []) c) (lookup_mapped row_order (row_eq q) f rows) ∙ by_case (lookup (row_eq q) rows) refl
  where
    by_case : (o : Option Row) → lookup (row_eq q) rows ≡ o → cell_in others (unwrap_or (option_map f o) []) c ≡ cell_in columns (unwrap_or o []) c
    by_case None e = cell_of_none others c ∙ sym (cell_of_none columns c)
    by_case (Some cells) e = step cells (found_fits n rows q cells fits e)

-- keys of rows that are changed
keys_mapped : (f : Row → Row) (rows : List (Row × Row)) → keys_of (map (λ (r : Row × Row). (r.0, f r.1)) rows) ≡ keys_of rows
keys_mapped f [] = refl
keys_mapped f (r ∷ rs) = ap (λ ks. r.0 ∷ ks) (keys_mapped f rs)

keys_filtered : (p : Row → Bool) (rows : List (Row × Row)) → keys_of (filter (λ (r : Row × Row). p r.0) rows) ≡ filter p (keys_of rows)
keys_filtered p [] = refl
keys_filtered p (r ∷ rs) = split (p r.0) refl (keys_filtered p rs)
  where
    split : (b : Bool) → p r.0 ≡ b → keys_of (filter (λ (s : Row × Row). p s.0) rs) ≡ filter p (keys_of rs) → keys_of (filter (λ (s : Row × Row). p s.0) (r ∷ rs)) ≡ filter p (keys_of (r ∷ rs))
    split true e rest = rw (e, rest) refl
    split false e rest = rw (e, rest) refl

keys_with : (key cells : Row) (rows : List (Row × Row)) → keys_of (with_element by_key (key, cells) rows) ≡ with_element row_cmp key (keys_of rows)
keys_with key cells [] = refl
keys_with key cells (r ∷ rs) =
    elim (row_cmp key r.0) as (λ o. keys_of (by_order o ((key, cells) ∷ r ∷ rs) (r ∷ rs) (r ∷ with_element by_key (key, cells) rs)) ≡ by_order o (key ∷ r.0 ∷ keys_of rs) (r.0 ∷ keys_of rs) (r.0 ∷ with_element row_cmp key (keys_of rs)))
    [ Less ↦ refl | Equal ↦ refl | Greater ↦ ap (λ ks. r.0 ∷ ks) (keys_with key cells rs) ]

any_inserted : (c : Text) (columns : Row) (k : ℕ) (column : Text) → is_in c (insert columns k column) ≡ (text_eq c column || is_in c columns)
any_inserted c columns zero column = refl
any_inserted c [] (suc k) column = refl
any_inserted c (x ∷ xs) (suc k) column = ap (λ b. text_eq c x || b) (any_inserted c xs k column) ∙ swapped (text_eq c x) (text_eq c column) (is_in c xs)
  where
    swapped : (a b d : Bool) → (a || (b || d)) ≡ (b || (a || d))
    swapped true true d = refl
    swapped true false d = refl
    swapped false b d = refl

-- a row is taken out
pub row_minus_keys : (t : TableValue) (key q : Row) → has_key q (without_row key t) ≡ (has_key q t && not (row_eq key q))
row_minus_keys t key q = ap (list_any (row_eq q)) (keys_filtered (λ k. not (row_eq key k)) t.rows) ∙ any_filtered row_order (λ k. not (row_eq key k)) q (row_keys t)

pub row_minus_cells : (t : TableValue) (key q : Row) (c : Text) → row_eq q key ≡ false → cell_of (without_row key t) q c ≡ cell_of t q c
row_minus_cells t key q c h = ap (λ (o : Option Row). cell_in t.columns (unwrap_or o []) c) (lookup_kept row_order t.rows key q h)

-- a column is taken out
pub column_minus_columns : (t : TableValue) (column c : Text) → IsTable t → has_column column t ≡ true → has_column c (without_column column t) ≡ (has_column c t && not (text_eq column c))
column_minus_columns t column c h there =
    let place = place_there text_order (λ (x : Text). x) column t.columns there in
    ap (λ (u : TableValue). is_in c u.columns) (column_removed t column place.0 h place.1)
    ∙ ap (is_in c) (sym (removed_at text_order (λ (x : Text). x) column t.columns place.0 (own_keys t.columns h.columns) place.1))
    ∙ any_filtered text_order (λ x. not (text_eq column x)) c t.columns

pub column_minus_keys : (t : TableValue) (column : Text) → row_keys (without_column column t) ≡ row_keys t
column_minus_keys t column = keys_mapped (λ cells. remove cells (column_place column t.columns)) t.rows

pub column_minus_cells : (t : TableValue) (column : Text) (q : Row) (c : Text) → IsTable t → has_column column t ≡ true → text_eq c column ≡ false → cell_of (without_column column t) q c ≡ cell_of t q c
column_minus_cells t column q c h there other =
    let place = place_there text_order (λ (x : Text). x) column t.columns there in
    ap (λ (u : TableValue). cell_of u q c) (column_removed t column place.0 h place.1)
    ∙ mapped_cell t.columns (remove t.columns place.0) (λ cells. remove cells place.0) t.rows q c (length t.columns) h.cells (λ cells n. cell_kept t.columns cells place.0 column c n place.1 other)

-- a column is added
pub column_plus_columns : (t : TableValue) (column c : Text) → has_column c (with_column column t) ≡ (text_eq c column || has_column c t)
column_plus_columns t column c = any_inserted c t.columns (column_place column t.columns) column

pub column_plus_keys : (t : TableValue) (column : Text) → row_keys (with_column column t) ≡ row_keys t
column_plus_keys t column = keys_mapped (λ cells. insert cells (column_place column t.columns) []) t.rows

pub column_plus_cells : (t : TableValue) (column : Text) (q : Row) (c : Text) → IsTable t → has_column column t ≡ false → cell_of (with_column column t) q c ≡ cell_of t q c
column_plus_cells t column q c h absent =
    let place = place_missing text_order (λ (x : Text). x) column t.columns (own_keys t.columns h.columns) absent in
    ap (λ (u : TableValue). cell_of u q c) (column_placed t column place.0 place.1)
    ∙ mapped_cell t.columns (insert t.columns place.0 column) (λ cells. insert cells place.0 []) t.rows q c (length t.columns) h.cells
    (λ cells n. cell_with_column t.columns cells place.0 column c n place.1.within (missing t.columns column absent))

-- a row is added
pub row_plus_keys : (t : TableValue) (key q : Row) → has_key q (with_row key t) ≡ (row_eq q key || has_key q t)
row_plus_keys t key q = ap (list_any (row_eq q)) (keys_with key (replicate (length t.columns) []) t.rows) ∙ any_with row_order q key (row_keys t)

pub row_plus_cells : (t : TableValue) (key q : Row) (c : Text) → IsTable t → has_row key t ≡ false → cell_of (with_row key t) q c ≡ cell_of t q c
row_plus_cells t key q c h absent =
    let place = place_missing row_order key_of key t.rows h.keys absent in
    let lacks = lacks_for row_order key_of key t.rows place.0 place.1 in
    ap (λ (u : TableValue). cell_of u q c) (row_placed t key place.0 place.1)
    ∙ ap (λ (o : Option Row). cell_in t.columns (unwrap_or o []) c) (lookup_inserted row_order t.rows place.0 key (replicate (length t.columns) []) q lacks)
    ∙ by_case (row_eq q key) refl lacks
  where
    by_case : (b : Bool) → row_eq q key ≡ b → Lacks row_order key_of key t.rows → cell_in t.columns (unwrap_or (cond b (Some (replicate (length t.columns) [])) (lookup (row_eq q) t.rows)) []) c ≡ cell_of t q c
    by_case true e lacks =
        let none : lookup (row_eq q) t.rows ≡ None = subst (λ (k : Row). lookup (row_eq k) t.rows ≡ None) (sym (equal_is row_order q key e)) (lookup_lacks row_order key t.rows lacks) in
        cell_of_empty (length t.columns) t.columns c ∙ sym (ap (λ (o : Option Row). cell_in t.columns (unwrap_or o []) c) none ∙ cell_of_none t.columns c)
    by_case false e lacks = refl

-- a cell gets a value
pub cell_keys : (t : TableValue) (key : Row) (column value : Text) → row_keys (with_cell key column value t) ≡ row_keys t
cell_keys t key column value = keys_changed t.rows
  where
    kept : (b : Bool) (r : Row × Row) → key_of (cond b (with_cell_at (column_place column t.columns) value r) r) ≡ key_of r
    kept true r = refl
    kept false r = refl

    keys_changed : (rows : List (Row × Row)) → keys_of (changed_where (λ (r : Row × Row). row_eq key r.0) (with_cell_at (column_place column t.columns) value) rows) ≡ keys_of rows
    keys_changed [] = refl
    keys_changed (r ∷ rs) =
        ap (λ (k : Row). k ∷ keys_of (changed_where (λ (d : Row × Row). row_eq key d.0) (with_cell_at (column_place column t.columns) value) rs)) (kept (row_eq key r.0) r)
        ∙ ap (λ (ks : List Row). r.0 ∷ ks) (keys_changed rs)

pub cell_cells : (t : TableValue) (key : Row) (column value : Text) (q : Row) (c : Text) → IsTable t → has_row key t ≡ true → has_column column t ≡ true
    → cell_of (with_cell key column value t) q c ≡ cond (row_eq q key && text_eq c column) value (cell_of t q c)
cell_cells t key column value q c h row_there column_there =
    let place = place_there text_order (λ (x : Text). x) column t.columns column_there in
    ap (λ k. cell_in t.columns (unwrap_or (lookup (row_eq q) (changed_where (λ (r : Row × Row). row_eq key r.0) (with_cell_at k value) t.rows)) []) c) (place_of_column t column place.0 h place.1)
    ∙ ap (λ (o : Option Row). cell_in t.columns (unwrap_or o []) c) (lookup_changed row_order (λ cells. slice_set cells place.0 value) t.rows key q)
    ∙ by_case (row_eq q key) (lookup (row_eq q) t.rows) refl refl place.0 place.1
  where
    by_case : (b : Bool) (o : Option Row) → row_eq q key ≡ b → lookup (row_eq q) t.rows ≡ o → (k : ℕ) → IsPlaceOf (λ (x : Text). x) column t.columns k
        → cell_in t.columns (unwrap_or (cond b (option_map (λ cells. slice_set cells k value) o) o) []) c ≡ cond (b && text_eq c column) value (cell_in t.columns (unwrap_or o []) c)
    by_case false o e f k at = refl
    by_case true None e f k at =
        absurd (false≢true (ap is_some (sym (subst (λ (r : Row). lookup (row_eq r) t.rows ≡ None) (equal_is row_order q key e) f)) ∙ found_any row_order t.rows key ∙ row_there))
    by_case true (Some cells) e f k at = cell_written t.columns cells k column value c (own_keys t.columns h.columns) (found_fits (length t.columns) t.rows q cells h.cells f) at

-- tables with the same columns, the same keys and the same cells are the same
pub same_tables : (t u : TableValue) → IsTable t → IsTable u → ((c : Text) → has_column c t ≡ has_column c u) → ((q : Row) → has_key q t ≡ has_key q u)
    → ((q : Row) (c : Text) → has_key q u ≡ true → has_column c u ≡ true → cell_of t q c ≡ cell_of u q c) → t ≡ u
same_tables t u h i columns keys cells = whole (same_keys text_order t.columns u.columns h.columns i.columns columns)
  where
    there : (q : Row) (v : TableValue) (o : Option Row) → lookup (row_eq q) v.rows ≡ o → is_some o ≡ has_key q v
    there q v o e = ap is_some (sym e) ∙ found_any row_order v.rows q ∙ key_is_there q v

    row : (q : Row) → t.columns ≡ u.columns → lookup (row_eq q) t.rows ≡ lookup (row_eq q) u.rows
    row q same = by_case (lookup (row_eq q) t.rows) (lookup (row_eq q) u.rows) refl refl
      where
        by_case : (a b : Option Row) → lookup (row_eq q) t.rows ≡ a → lookup (row_eq q) u.rows ≡ b → a ≡ b
        by_case None None d e = refl
        by_case None (Some y) d e = absurd (false≢true (there q t None d ∙ keys q ∙ sym (there q u (Some y) e)))
        by_case (Some x) None d e = absurd (false≢true (there q u None e ∙ sym (keys q) ∙ sym (there q t (Some x) d)))
        by_case (Some x) (Some y) d e =
            let n : length x ≡ length u.columns = found_fits (length t.columns) t.rows q x h.cells d ∙ ap length same in
            let m : length y ≡ length u.columns = found_fits (length u.columns) u.rows q y i.cells e in
            ap (λ (r : Row). Some r) (same_cells u.columns x y (own_keys u.columns i.columns) n m (λ c in_u.
            ap (λ (v : Row). cell_in v x c) (sym same) ∙ ap (λ (o : Option Row). cell_in t.columns (unwrap_or o []) c) (sym d)
            ∙ cells q c (sym (there q u (Some y) e)) in_u ∙ ap (λ (o : Option Row). cell_in u.columns (unwrap_or o []) c) e))

    whole : t.columns ≡ u.columns → t ≡ u
    whole same =
        let rows : t.rows ≡ u.rows = same_pairs row_order t.rows u.rows h.keys i.keys (λ q. row q same) in
        λ j. table_value (same j) (rows j)

-- a row or a column that is missing has no cell
pub cell_no_column : (t : TableValue) (q : Row) (c : Text) → has_column c t ≡ false → cell_of t q c ≡ []
cell_no_column t q c h = ap (λ (o : Option Text). unwrap_or o []) (found_none t.columns (cells_of t q) c (missing t.columns c h))

pub cell_no_key : (t : TableValue) (q : Row) (c : Text) → has_key q t ≡ false → cell_of t q c ≡ []
cell_no_key t q c h = by_case (lookup (row_eq q) t.rows) refl
  where
    by_case : (o : Option Row) → lookup (row_eq q) t.rows ≡ o → cell_of t q c ≡ []
    by_case None e = ap (λ (o : Option Row). cell_in t.columns (unwrap_or o []) c) e ∙ cell_of_none t.columns c
    by_case (Some cells) e = absurd (false≢true (sym h ∙ sym (key_is_there q t) ∙ sym (found_any row_order t.rows q) ∙ ap is_some e))
