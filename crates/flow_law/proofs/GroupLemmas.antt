-- Groups of lines of one table: rows and columns that go, columns and rows that come.
use Rattle.std.proofs.Common.{◌≡◌, ◌∷◌, ◌++◌, [], Bool, true, false, List, refl, ◌∙◌, ap, map}
use Rattle.std.specs.Prelude.{not, ◌&&◌, ◌||◌}
use Rattle.std.specs.List.{AllByRecursion, list_any}
use Rattle.std.specs.List.Sorted.{IsStrictlySortedBy}
use Rattle.std.specs.declared.cmp.Ordering.TheVariants.{Less}
use Rattle.ss_text.specs.Texts.{Text, Row, text_eq, text_cmp, row_eq, row_cmp, is_in}
use Rattle.ss_text.proofs.KeyLemmas.{text_order, row_order, less_differs}
use Rattle.ss_text.proofs.PairLemmas.{turned}
use Rattle.flow_law.specs.Tables.{TableValue, cell_of}
use Rattle.flow_law.specs.InOrder.{IsTable}
use Rattle.flow_law.specs.Lines.{without_row, with_row, without_column, with_column, has_row, has_column, fits_table, table_after}
use Rattle.flow_law.specs.declared.line.TableLine.{TableLine}
use Rattle.flow_law.specs.declared.line.TableLine.TheVariants.{RowMinus, ColumnMinus, ColumnPlus, RowPlus}
use Rattle.flow_law.proofs.TableLemmas.{line_in_order}
use Rattle.flow_law.proofs.StepLemmas.{has_key, key_is_there, row_minus_keys, row_minus_cells, column_minus_columns, column_minus_keys, column_minus_cells, column_plus_columns, column_plus_keys, column_plus_cells, row_plus_keys, row_plus_cells}

-- a table after lines that name its rows and columns, and whether each fits
abbrev pub steps : TableValue → List TableLine → TableValue
steps t [] = t
steps t (line ∷ lines) = steps (table_after line t) lines

abbrev pub fit_steps : TableValue → List TableLine → Bool
fit_steps t [] = true
fit_steps t (line ∷ lines) = fits_table line t && fit_steps (table_after line t) lines

pub steps-append : (t : TableValue) (xs ys : List TableLine) → steps t (xs ++ ys) ≡ steps (steps t xs) ys
steps-append t [] ys = refl
steps-append t (x ∷ xs) ys = steps-append (table_after x t) xs ys

pub fit_steps-append : (t : TableValue) (xs ys : List TableLine) → fit_steps t xs ≡ true → fit_steps (steps t xs) ys ≡ true → fit_steps t (xs ++ ys) ≡ true
fit_steps-append t [] ys h i = i
fit_steps-append t (x ∷ xs) ys h i = both (fits_table x t) (fit_steps (table_after x t) xs) (fit_steps (table_after x t) (xs ++ ys)) h (λ rest. fit_steps-append (table_after x t) xs ys rest i)
  where
    both : (a b c : Bool) → (a && b) ≡ true → (b ≡ true → c ≡ true) → (a && c) ≡ true
    both true b c h step = step h
    both false b c h step = absurd (cc)

-- what lines make of a table: which columns and keys there are then, and which cells stay
pub record Makes (t : TableValue) (lines : List TableLine) (columns : Text → Bool) (keys : Row → Bool) (stays : Row → Text → Bool) : Type 0 where
  pub fit : fit_steps t lines ≡ true
  pub in_order : IsTable (steps t lines)
  pub has_columns : (c : Text) → has_column c (steps t lines) ≡ columns c
  pub has_keys : (q : Row) → has_key q (steps t lines) ≡ keys q
  pub cells : (q : Row) (c : Text) → stays q c ≡ true → cell_of (steps t lines) q c ≡ cell_of t q c

and_true : (a : Bool) → a ≡ (a && true)
and_true true = refl
and_true false = refl

and_both : (a b : Bool) → a ≡ true → b ≡ true → (a && b) ≡ true
and_both true b h i = i
and_both false b h i = absurd (cc)

not_either : (a b c : Bool) → ((a && not b) && not c) ≡ (a && not (b || c))
not_either true true c = refl
not_either true false c = refl
not_either false b c = refl

either_first : (a b c : Bool) → (c || (b || a)) ≡ ((b || c) || a)
either_first a true true = refl
either_first a true false = refl
either_first a false true = refl
either_first a false false = refl

neither : (a b : Bool) → not (a || b) ≡ true → record { first : a ≡ false; second : not b ≡ true }
neither true b h = absurd (cc)
neither false b h = record { first = refl; second = h }

false_not : (a : Bool) → a ≡ false → not a ≡ true
false_not true h = absurd (cc)
false_not false h = refl

-- lines for keys and columns, one after another
module _ (label : Text) where
  others_stay : (k : Row) (ks : List Row) (t : TableValue) → AllByRecursion (λ j. row_cmp k j ≡ Less) ks → AllByRecursion (λ j. has_key j t ≡ true) ks → AllByRecursion (λ j. has_key j (without_row k t) ≡ true) ks
  others_stay k [] t behind there = tt
  others_stay k (j ∷ js) t behind there =
      let apart : row_eq k j ≡ false = turned row_order k j ∙ less_differs row_order k j behind.0 in
      (row_minus_keys t k j ∙ and_both (has_key j t) (not (row_eq k j)) there.0 (false_not (row_eq k j) apart), others_stay k js t behind.1 there.1)

  pub rows_go : (ks : List Row) (t : TableValue) → IsTable t → IsStrictlySortedBy row_cmp ks → AllByRecursion (λ k. has_key k t ≡ true) ks
      → Makes t (map (λ k. RowMinus label k) ks) (λ c. has_column c t) (λ q. has_key q t && not (list_any (row_eq q) ks)) (λ q c. not (list_any (row_eq q) ks))
  unfolding IsStrictlySortedBy
  rows_go [] t h s there = record { fit = refl; in_order = h; has_columns = λ c. refl; has_keys = λ q. and_true (has_key q t); cells = λ q c _. refl }
  rows_go (k ∷ ks) t h s there =
      let fits : has_row k t ≡ true = key_is_there k t ∙ there.0 in
      let rest = rows_go ks (without_row k t) (line_in_order (RowMinus label k) t h fits) s.1 (others_stay k ks t s.0 there.1) in
      record {
        fit = and_both (has_row k t) (fit_steps (without_row k t) (map (λ j. RowMinus label j) ks)) fits rest.fit;
        in_order = rest.in_order;
        has_columns = rest.has_columns;
        has_keys = λ q. rest.has_keys q ∙ ap (λ b. b && not (list_any (row_eq q) ks)) (row_minus_keys t k q ∙ ap (λ b. has_key q t && not b) (turned row_order k q)) ∙ not_either (has_key q t) (row_eq q k) (list_any (row_eq q) ks);
        cells = λ q c stays.
            let apart = neither (row_eq q k) (list_any (row_eq q) ks) stays in
            rest.cells q c apart.second ∙ row_minus_cells t k q c apart.first;
      }

  columns_stay : (x : Text) (xs : Row) (t : TableValue) → IsTable t → has_column x t ≡ true → AllByRecursion (λ y. text_cmp x y ≡ Less) xs → AllByRecursion (λ y. has_column y t ≡ true) xs → AllByRecursion (λ y. has_column y (without_column x t) ≡ true) xs
  columns_stay x [] t h there behind all = tt
  columns_stay x (y ∷ ys) t h there behind all =
      let apart : text_eq x y ≡ false = turned text_order x y ∙ less_differs text_order x y behind.0 in
      (column_minus_columns t x y h there ∙ and_both (has_column y t) (not (text_eq x y)) all.0 (false_not (text_eq x y) apart), columns_stay x ys t h there behind.1 all.1)

  pub columns_go : (xs : Row) (t : TableValue) → IsTable t → IsStrictlySortedBy text_cmp xs → AllByRecursion (λ x. has_column x t ≡ true) xs
      → Makes t (map (λ x. ColumnMinus label x) xs) (λ c. has_column c t && not (is_in c xs)) (λ q. has_key q t) (λ q c. not (is_in c xs))
  unfolding IsStrictlySortedBy
  columns_go [] t h s there = record { fit = refl; in_order = h; has_columns = λ c. and_true (has_column c t); has_keys = λ q. refl; cells = λ q c _. refl }
  columns_go (x ∷ xs) t h s there =
      let rest = columns_go xs (without_column x t) (line_in_order (ColumnMinus label x) t h there.0) s.1 (columns_stay x xs t h there.0 s.0 there.1) in
      record {
        fit = and_both (has_column x t) (fit_steps (without_column x t) (map (λ y. ColumnMinus label y) xs)) there.0 rest.fit;
        in_order = rest.in_order;
        has_columns = λ c. rest.has_columns c ∙ ap (λ b. b && not (is_in c xs)) (column_minus_columns t x c h there.0 ∙ ap (λ b. has_column c t && not b) (turned text_order x c)) ∙ not_either (has_column c t) (text_eq c x) (is_in c xs);
        has_keys = λ q. rest.has_keys q ∙ ap (list_any (row_eq q)) (column_minus_keys t x);
        cells = λ q c stays.
            let apart = neither (text_eq c x) (is_in c xs) stays in
            rest.cells q c apart.second ∙ column_minus_cells t x q c h there.0 apart.first;
      }

  columns_absent : (x : Text) (xs : Row) (t : TableValue) → AllByRecursion (λ y. text_cmp x y ≡ Less) xs → AllByRecursion (λ y. has_column y t ≡ false) xs → AllByRecursion (λ y. has_column y (with_column x t) ≡ false) xs
  columns_absent x [] t behind all = tt
  columns_absent x (y ∷ ys) t behind all =
      (column_plus_columns t x y ∙ ap (λ b. b || has_column y t) (less_differs text_order x y behind.0) ∙ all.0, columns_absent x ys t behind.1 all.1)

  pub columns_come : (xs : Row) (t : TableValue) → IsTable t → IsStrictlySortedBy text_cmp xs → AllByRecursion (λ x. has_column x t ≡ false) xs
      → Makes t (map (λ x. ColumnPlus label x) xs) (λ c. is_in c xs || has_column c t) (λ q. has_key q t) (λ q c. true)
  unfolding IsStrictlySortedBy
  columns_come [] t h s absent = record { fit = refl; in_order = h; has_columns = λ c. refl; has_keys = λ q. refl; cells = λ q c _. refl }
  columns_come (x ∷ xs) t h s absent =
      let fits = false_not (has_column x t) absent.0 in
      let rest = columns_come xs (with_column x t) (line_in_order (ColumnPlus label x) t h fits) s.1 (columns_absent x xs t s.0 absent.1) in
      record {
        fit = and_both (not (has_column x t)) (fit_steps (with_column x t) (map (λ y. ColumnPlus label y) xs)) fits rest.fit;
        in_order = rest.in_order;
        has_columns = λ c. rest.has_columns c ∙ ap (λ b. is_in c xs || b) (column_plus_columns t x c) ∙ either_first (has_column c t) (text_eq c x) (is_in c xs);
        has_keys = λ q. rest.has_keys q ∙ ap (list_any (row_eq q)) (column_plus_keys t x);
        cells = λ q c stays. rest.cells q c refl ∙ column_plus_cells t x q c h absent.0;
      }

  keys_absent : (k : Row) (ks : List Row) (t : TableValue) → AllByRecursion (λ j. row_cmp k j ≡ Less) ks → AllByRecursion (λ j. has_key j t ≡ false) ks → AllByRecursion (λ j. has_key j (with_row k t) ≡ false) ks
  keys_absent k [] t behind all = tt
  keys_absent k (j ∷ js) t behind all =
      (row_plus_keys t k j ∙ ap (λ b. b || has_key j t) (less_differs row_order k j behind.0) ∙ all.0, keys_absent k js t behind.1 all.1)

  pub rows_come : (ks : List Row) (t : TableValue) → IsTable t → IsStrictlySortedBy row_cmp ks → AllByRecursion (λ k. has_key k t ≡ false) ks
      → Makes t (map (λ k. RowPlus label k) ks) (λ c. has_column c t) (λ q. list_any (row_eq q) ks || has_key q t) (λ q c. true)
  unfolding IsStrictlySortedBy
  rows_come [] t h s absent = record { fit = refl; in_order = h; has_columns = λ c. refl; has_keys = λ q. refl; cells = λ q c _. refl }
  rows_come (k ∷ ks) t h s absent =
      let none : has_row k t ≡ false = key_is_there k t ∙ absent.0 in
      let fits = false_not (has_row k t) none in
      let rest = rows_come ks (with_row k t) (line_in_order (RowPlus label k) t h fits) s.1 (keys_absent k ks t s.0 absent.1) in
      record {
        fit = and_both (not (has_row k t)) (fit_steps (with_row k t) (map (λ j. RowPlus label j) ks)) fits rest.fit;
        in_order = rest.in_order;
        has_columns = rest.has_columns;
        has_keys = λ q. rest.has_keys q ∙ ap (λ b. list_any (row_eq q) ks || b) (row_plus_keys t k q) ∙ either_first (has_key q t) (row_eq q k) (list_any (row_eq q) ks);
        cells = λ q c stays. rest.cells q c refl ∙ row_plus_cells t k q c h none;
      }
