-- The lines for one table take the old one to the new one, each fitting.
use Rattle.std.proofs.Common.{◌≡◌, ◌∷◌, ◌++◌, [], Bool, true, false, cond, List, Some, None, refl, sym, ◌∙◌, ap, subst, map, inl, inr}
use Rattle.std.specs.Prelude.{not, ◌&&◌, ◌||◌, ◌⊎◌, flat_map, if◌then◌else◌}
use Rattle.std.specs.List.{AllByRecursion, list_any, filter_map, cons_option}
use Rattle.std.proofs.lemmas.List.Kept.{IsStrictlySortedBy-filter}
use Rattle.ss_text.specs.Texts.{Text, Row, text_eq, text_cmp, row_eq, row_cmp, is_in}
use Rattle.ss_text.proofs.KeyLemmas.{text_order, row_order, equal_is, equal_itself}
use Rattle.ss_text.proofs.PairLemmas.{any_filtered, each_found, found_each}
use Rattle.flow_law.specs.Tables.{TableValue, row_keys, cell_of}
use Rattle.flow_law.specs.InOrder.{IsTable}
use Rattle.flow_law.specs.Lines.{with_cell, has_row, has_column}
use Rattle.flow_law.specs.Script.{columns_beyond, keys_beyond, cell_line, lines_between}
use Rattle.flow_law.specs.declared.line.TableLine.{TableLine}
use Rattle.flow_law.specs.declared.line.TableLine.TheVariants.{RowMinus, ColumnMinus, ColumnPlus, RowPlus, Cell}
use Rattle.flow_law.proofs.TableLemmas.{line_in_order}
use Rattle.flow_law.proofs.StepLemmas.{has_key, key_is_there, cell_keys, cell_cells, same_tables, cell_no_key, cell_no_column}
use Rattle.flow_law.proofs.GroupLemmas.{steps, fit_steps, steps-append, fit_steps-append, Makes, rows_go, columns_go, columns_come, rows_come}

and_both : (a b : Bool) → a ≡ true → b ≡ true → (a && b) ≡ true
and_both true b h i = i
and_both false b h i = absurd (cc)

-- a table on the way to the new one: the same columns and keys as before, and each cell as before or as it will be
pub record Nears (new t u : TableValue) : Type 0 where
  pub in_order : IsTable u
  pub has_columns : (c : Text) → has_column c u ≡ has_column c t
  pub has_keys : (q : Row) → has_key q u ≡ has_key q t
  pub cells : (q : Row) (c : Text) → (cell_of u q c ≡ cell_of t q c) ⊎ (cell_of u q c ≡ cell_of new q c)

nears_itself : (new t : TableValue) → IsTable t → Nears new t t
nears_itself new t h = record { in_order = h; has_columns = λ c. refl; has_keys = λ q. refl; cells = λ q c. inl refl }

nears_on : (new t u v : TableValue) → Nears new t u → Nears new u v → Nears new t v
nears_on new t u v a b = record {
  in_order = b.in_order;
  has_columns = λ c. b.has_columns c ∙ a.has_columns c;
  has_keys = λ q. b.has_keys q ∙ a.has_keys q;
  cells = λ q c. next q c (a.cells q c) (b.cells q c);
}
  where
    next : (q : Row) (c : Text) → (cell_of u q c ≡ cell_of t q c) ⊎ (cell_of u q c ≡ cell_of new q c) → (cell_of v q c ≡ cell_of u q c) ⊎ (cell_of v q c ≡ cell_of new q c) → (cell_of v q c ≡ cell_of t q c) ⊎ (cell_of v q c ≡ cell_of new q c)
    next q c x (inr j) = inr j
    next q c (inl i) (inl j) = inl (j ∙ i)
    next q c (inr i) (inl j) = inr (j ∙ i)

-- what has come stays
stays_new : (new t u : TableValue) (q : Row) (c : Text) → Nears new t u → cell_of t q c ≡ cell_of new q c → cell_of u q c ≡ cell_of new q c
stays_new new t u q c a h = pick (a.cells q c)
  where
    pick : (cell_of u q c ≡ cell_of t q c) ⊎ (cell_of u q c ≡ cell_of new q c) → cell_of u q c ≡ cell_of new q c
    pick (inl i) = i ∙ h
    pick (inr i) = i

module _ (label : Text) (old new : TableValue) where
  -- each cell as before or as it will be
  abbrev Between : TableValue → Type 0
  Between t = (q : Row) (c : Text) → (cell_of t q c ≡ cell_of old q c) ⊎ (cell_of t q c ≡ cell_of new q c)

  between_on : (t u : TableValue) → Nears new t u → Between t → Between u
  between_on t u a h q c = next (a.cells q c) (h q c)
    where
      next : (cell_of u q c ≡ cell_of t q c) ⊎ (cell_of u q c ≡ cell_of new q c) → (cell_of t q c ≡ cell_of old q c) ⊎ (cell_of t q c ≡ cell_of new q c) → (cell_of u q c ≡ cell_of old q c) ⊎ (cell_of u q c ≡ cell_of new q c)
      next (inr i) x = inr i
      next (inl i) (inl j) = inl (i ∙ j)
      next (inl i) (inr j) = inr (i ∙ j)

  -- one cell
  cell_nears : (t : TableValue) (k : Row) (x : Text) → IsTable t → has_row k t ≡ true → has_column x t ≡ true → Nears new t (with_cell k x (cell_of new k x) t)
  cell_nears t k x h row_there column_there = record {
    in_order = line_in_order (Cell label x (cell_of new k x) k) t h (and_both (has_row k t) (has_column x t) row_there column_there);
    has_columns = λ c. refl;
    has_keys = λ q. ap (list_any (row_eq q)) (cell_keys t k x (cell_of new k x));
    cells = λ q c. by_case q c (row_eq q k) (text_eq c x) refl refl (cell_cells t k x (cell_of new k x) q c h row_there column_there);
  }
    where
      by_case : (q : Row) (c : Text) (a b : Bool) → row_eq q k ≡ a → text_eq c x ≡ b → cell_of (with_cell k x (cell_of new k x) t) q c ≡ cond (row_eq q k && text_eq c x) (cell_of new k x) (cell_of t q c)
          → (cell_of (with_cell k x (cell_of new k x) t) q c ≡ cell_of t q c) ⊎ (cell_of (with_cell k x (cell_of new k x) t) q c ≡ cell_of new q c)
      by_case q c false b d e made = inl (rw d at made)
      by_case q c true false d e made = inl (rw (d, e) at made)
      by_case q c true true d e made = inr ((rw (d, e) at made) ∙ ap (λ (r : Row). cell_of new r x) (sym (equal_is row_order q k d)) ∙ ap (cell_of new q) (sym (equal_is text_order c x e)))

  cell_new : (t : TableValue) (k : Row) (x : Text) → IsTable t → has_row k t ≡ true → has_column x t ≡ true → cell_of (with_cell k x (cell_of new k x) t) k x ≡ cell_of new k x
  cell_new t k x h row_there column_there =
      cell_cells t k x (cell_of new k x) k x h row_there column_there
      ∙ ap (λ b. cond b (cell_of new k x) (cell_of t k x)) (and_both (row_eq k k) (text_eq x x) (equal_itself row_order k) (equal_itself text_order x))

  -- the cells of one row
  record RowDone (t : TableValue) (k : Row) (xs : Row) (lines : List TableLine) : Type 0 where
    fit : fit_steps t lines ≡ true
    nears : Nears new t (steps t lines)
    done : AllByRecursion (λ x. cell_of (steps t lines) k x ≡ cell_of new k x) xs

  columns_kept : (t u : TableValue) (xs : Row) → Nears new t u → AllByRecursion (λ x. has_column x t ≡ true) xs → AllByRecursion (λ x. has_column x u ≡ true) xs
  columns_kept t u [] a all = tt
  columns_kept t u (x ∷ xs) a all = (a.has_columns x ∙ all.0, columns_kept t u xs a all.1)

  row_cells : (k : Row) (xs : Row) (t : TableValue) → IsTable t → has_key k t ≡ true → AllByRecursion (λ x. has_column x t ≡ true) xs → Between t → RowDone t k xs (filter_map (cell_line label old new k) xs)
  row_cells k [] t h there all between = record { fit = refl; nears = nears_itself new t h; done = tt }
  row_cells k (x ∷ xs) t h there all between =
      by_case (text_eq (cell_of old k x) (cell_of new k x)) refl (row_cells k xs t h there all.1 between)
      (row_cells k xs u step.in_order (step.has_keys k ∙ there) (columns_kept t u xs step all.1) (between_on t u step between))
    where
      row_there : has_row k t ≡ true
      row_there = key_is_there k t ∙ there

      u : TableValue
      u = with_cell k x (cell_of new k x) t

      step : Nears new t u
      step = cell_nears t k x h row_there all.0

      as_new : cell_of old k x ≡ cell_of new k x → (cell_of t k x ≡ cell_of old k x) ⊎ (cell_of t k x ≡ cell_of new k x) → cell_of t k x ≡ cell_of new k x
      as_new e (inl i) = i ∙ e
      as_new e (inr i) = i

      by_case : (b : Bool) → text_eq (cell_of old k x) (cell_of new k x) ≡ b → RowDone t k xs (filter_map (cell_line label old new k) xs) → RowDone u k xs (filter_map (cell_line label old new k) xs)
          → RowDone t k (x ∷ xs) (cons_option (if b then None else Some (Cell label x (cell_of new k x) k)) (filter_map (cell_line label old new k) xs))
      by_case true e rest rest' = record {
        fit = rest.fit;
        nears = rest.nears;
        done = (stays_new new t _ k x rest.nears (as_new (equal_is text_order (cell_of old k x) (cell_of new k x) e) (between k x)), rest.done);
      }
      by_case false e rest rest' = record {
        fit = and_both (has_row k t && has_column x t) (fit_steps u (filter_map (cell_line label old new k) xs)) (and_both (has_row k t) (has_column x t) row_there all.0) rest'.fit;
        nears = nears_on new t u _ step rest'.nears;
        done = (stays_new new u _ k x rest'.nears (cell_new t k x h row_there all.0), rest'.done);
      }

  -- the cells of all rows
  record AllDone (t : TableValue) (ks : List Row) (xs : Row) (lines : List TableLine) : Type 0 where
    fit : fit_steps t lines ≡ true
    nears : Nears new t (steps t lines)
    done : AllByRecursion (λ k. AllByRecursion (λ x. cell_of (steps t lines) k x ≡ cell_of new k x) xs) ks

  keys_kept : (t u : TableValue) (ks : List Row) → Nears new t u → AllByRecursion (λ k. has_key k t ≡ true) ks → AllByRecursion (λ k. has_key k u ≡ true) ks
  keys_kept t u [] a all = tt
  keys_kept t u (k ∷ ks) a all = (a.has_keys k ∙ all.0, keys_kept t u ks a all.1)

  row_stays : (t u : TableValue) (k : Row) (xs : Row) → Nears new t u → AllByRecursion (λ x. cell_of t k x ≡ cell_of new k x) xs → AllByRecursion (λ x. cell_of u k x ≡ cell_of new k x) xs
  row_stays t u k [] a all = tt
  row_stays t u k (x ∷ xs) a all = (stays_new new t u k x a all.0, row_stays t u k xs a all.1)

  all_cells : (ks : List Row) (xs : Row) (t : TableValue) → IsTable t → AllByRecursion (λ k. has_key k t ≡ true) ks → AllByRecursion (λ x. has_column x t ≡ true) xs → Between t
      → AllDone t ks xs (flat_map (λ k. filter_map (cell_line label old new k) xs) ks)
  all_cells [] xs t h there all between = record { fit = refl; nears = nears_itself new t h; done = tt }
  all_cells (k ∷ ks) xs t h there all between = joined (row_cells k xs t h there.0 all between) (λ row. all_cells ks xs u row.nears.in_order (keys_kept t u ks row.nears there.1) (columns_kept t u xs row.nears all) (between_on t u row.nears between))
    where
      these : List TableLine
      these = filter_map (cell_line label old new k) xs

      later : List TableLine
      later = flat_map (λ j. filter_map (cell_line label old new j) xs) ks

      u : TableValue
      u = steps t these

      joined : RowDone t k xs these → (RowDone t k xs these → AllDone u ks xs later) → AllDone t (k ∷ ks) xs (these ++ later)
      joined row next = ended (next row)
        where
          ended : AllDone u ks xs later → AllDone t (k ∷ ks) xs (these ++ later)
          ended rest =
              let made : steps t (these ++ later) ≡ steps u later = steps-append t these later in
              record {
                fit = fit_steps-append t these later row.fit rest.fit;
                nears = subst (Nears new t) (sym made) (nears_on new t u (steps u later) row.nears rest.nears);
                done =
                    subst (λ (v : TableValue). AllByRecursion (λ j. AllByRecursion (λ x. cell_of v j x ≡ cell_of new j x) xs) (k ∷ ks)) (sym made) (row_stays u (steps u later) k xs rest.nears row.done, rest.done);
              }

  -- what is there after each group
  both_there : (a b : Bool) → (a && not (a && not b)) ≡ (a && b)
  both_there true true = refl
  both_there true false = refl
  both_there false b = refl

  new_there : (a b : Bool) → ((b && not a) || (a && b)) ≡ b
  new_there true true = refl
  new_there true false = refl
  new_there false true = refl
  new_there false false = refl

  kept_there : (a b : Bool) → b ≡ true → not (a && not b) ≡ true
  kept_there true true h = refl
  kept_there true false h = absurd (cc)
  kept_there false b h = refl

  not_there : (a b : Bool) → (b && not a) ≡ true → (a && b) ≡ false
  not_there true true h = absurd (cc)
  not_there true false h = refl
  not_there false b h = refl

  first_of_both : (a b : Bool) → (a && b) ≡ true → a ≡ true
  first_of_both true b h = refl
  first_of_both false b h = absurd (cc)

  module _ (h : IsTable old) (i : IsTable new) where
    any_gone_key : (q : Row) → list_any (row_eq q) (keys_beyond (row_keys new) (row_keys old)) ≡ (has_key q old && not (has_key q new))
    any_gone_key q = any_filtered row_order (λ k. not (list_any (row_eq k) (row_keys new))) q (row_keys old)

    any_gone_column : (c : Text) → is_in c (columns_beyond new.columns old.columns) ≡ (has_column c old && not (has_column c new))
    any_gone_column c = any_filtered text_order (λ x. not (is_in x new.columns)) c old.columns

    any_new_column : (c : Text) → is_in c (columns_beyond old.columns new.columns) ≡ (has_column c new && not (has_column c old))
    any_new_column c = any_filtered text_order (λ x. not (is_in x old.columns)) c new.columns

    any_new_key : (q : Row) → list_any (row_eq q) (keys_beyond (row_keys old) (row_keys new)) ≡ (has_key q new && not (has_key q old))
    any_new_key q = any_filtered row_order (λ k. not (list_any (row_eq k) (row_keys old))) q (row_keys new)

    abbrev A : List TableLine
    A = map (λ key. RowMinus label key) (keys_beyond (row_keys new) (row_keys old))

    abbrev B : List TableLine
    B = map (λ column. ColumnMinus label column) (columns_beyond new.columns old.columns)

    abbrev C : List TableLine
    C = map (λ column. ColumnPlus label column) (columns_beyond old.columns new.columns)

    abbrev D : List TableLine
    D = map (λ key. RowPlus label key) (keys_beyond (row_keys old) (row_keys new))

    abbrev F : List TableLine
    F = flat_map (λ key. filter_map (cell_line label old new key) new.columns) (row_keys new)

    -- after the rows that go
    abbrev first : TableValue
    first = steps old A

    rows_gone : Makes old A (λ c. has_column c old) (λ q. has_key q old && not (list_any (row_eq q) (keys_beyond (row_keys new) (row_keys old)))) (λ q c. not (list_any (row_eq q) (keys_beyond (row_keys new) (row_keys old))))
    rows_gone = rows_go label (keys_beyond (row_keys new) (row_keys old)) old h (IsStrictlySortedBy-filter row_cmp _ (row_keys old) h.keys)
        (each_found row_order (λ q. has_key q old ≡ true) (keys_beyond (row_keys new) (row_keys old)) (λ q there. first_of_both (has_key q old) (not (has_key q new)) (sym (any_gone_key q) ∙ there)))

    first_keys : (q : Row) → has_key q first ≡ (has_key q old && has_key q new)
    first_keys q = rows_gone.has_keys q ∙ ap (λ b. has_key q old && not b) (any_gone_key q) ∙ both_there (has_key q old) (has_key q new)

    -- after the columns that go
    abbrev second : TableValue
    second = steps first B

    columns_gone : Makes first B (λ c. has_column c first && not (is_in c (columns_beyond new.columns old.columns))) (λ q. has_key q first) (λ q c. not (is_in c (columns_beyond new.columns old.columns)))
    columns_gone = columns_go label (columns_beyond new.columns old.columns) first rows_gone.in_order (IsStrictlySortedBy-filter text_cmp _ old.columns h.columns)
        (each_found text_order (λ c. has_column c first ≡ true) (columns_beyond new.columns old.columns) (λ c there. rows_gone.has_columns c ∙ first_of_both (has_column c old) (not (has_column c new)) (sym (any_gone_column c) ∙ there)))

    second_columns : (c : Text) → has_column c second ≡ (has_column c old && has_column c new)
    second_columns c =
        columns_gone.has_columns c ∙ ap (λ b. b && not (is_in c (columns_beyond new.columns old.columns))) (rows_gone.has_columns c)
        ∙ ap (λ b. has_column c old && not b) (any_gone_column c) ∙ both_there (has_column c old) (has_column c new)

    -- after the columns that come
    abbrev third : TableValue
    third = steps second C

    columns_new : Makes second C (λ c. is_in c (columns_beyond old.columns new.columns) || has_column c second) (λ q. has_key q second) (λ q c. true)
    columns_new = columns_come label (columns_beyond old.columns new.columns) second columns_gone.in_order (IsStrictlySortedBy-filter text_cmp _ new.columns i.columns)
        (each_found text_order (λ c. has_column c second ≡ false) (columns_beyond old.columns new.columns) (λ c there. second_columns c ∙ not_there (has_column c old) (has_column c new) (sym (any_new_column c) ∙ there)))

    third_columns : (c : Text) → has_column c third ≡ has_column c new
    third_columns c =
        columns_new.has_columns c ∙ ap (λ b. b || has_column c second) (any_new_column c) ∙ ap (λ b. (has_column c new && not (has_column c old)) || b) (second_columns c)
        ∙ new_there (has_column c old) (has_column c new)

    third_keys : (q : Row) → has_key q third ≡ (has_key q old && has_key q new)
    third_keys q = columns_new.has_keys q ∙ columns_gone.has_keys q ∙ first_keys q

    -- after the rows that come
    abbrev fourth : TableValue
    fourth = steps third D

    rows_new : Makes third D (λ c. has_column c third) (λ q. list_any (row_eq q) (keys_beyond (row_keys old) (row_keys new)) || has_key q third) (λ q c. true)
    rows_new = rows_come label (keys_beyond (row_keys old) (row_keys new)) third columns_new.in_order (IsStrictlySortedBy-filter row_cmp _ (row_keys new) i.keys)
        (each_found row_order (λ q. has_key q third ≡ false) (keys_beyond (row_keys old) (row_keys new)) (λ q there. third_keys q ∙ not_there (has_key q old) (has_key q new) (sym (any_new_key q) ∙ there)))

    fourth_keys : (q : Row) → has_key q fourth ≡ has_key q new
    fourth_keys q =
        rows_new.has_keys q ∙ ap (λ b. b || has_key q third) (any_new_key q) ∙ ap (λ b. (has_key q new && not (has_key q old)) || b) (third_keys q) ∙ new_there (has_key q old) (has_key q new)

    fourth_columns : (c : Text) → has_column c fourth ≡ has_column c new
    fourth_columns c = rows_new.has_columns c ∙ third_columns c

    fourth_cells : (q : Row) (c : Text) → has_key q new ≡ true → has_column c new ≡ true → cell_of fourth q c ≡ cell_of old q c
    fourth_cells q c key column =
        rows_new.cells q c refl ∙ columns_new.cells q c refl
        ∙ columns_gone.cells q c (ap not (any_gone_column c) ∙ kept_there (has_column c old) (has_column c new) column)
        ∙ rows_gone.cells q c (ap not (any_gone_key q) ∙ kept_there (has_key q old) (has_key q new) key)

    fourth_between : Between fourth
    fourth_between q c = by_case (has_key q new) (has_column c new) refl refl
      where
        by_case : (a b : Bool) → has_key q new ≡ a → has_column c new ≡ b → (cell_of fourth q c ≡ cell_of old q c) ⊎ (cell_of fourth q c ≡ cell_of new q c)
        by_case false b d e = inr (cell_no_key fourth q c (fourth_keys q ∙ d) ∙ sym (cell_no_key new q c d))
        by_case true false d e = inr (cell_no_column fourth q c (fourth_columns c ∙ e) ∙ sym (cell_no_column new q c e))
        by_case true true d e = inl (fourth_cells q c d e)

    -- after the cells
    cells_new : AllDone fourth (row_keys new) new.columns F
    cells_new = all_cells (row_keys new) new.columns fourth rows_new.in_order
        (each_found row_order (λ q. has_key q fourth ≡ true) (row_keys new) (λ q there. fourth_keys q ∙ there))
        (each_found text_order (λ c. has_column c fourth ≡ true) new.columns (λ c there. fourth_columns c ∙ there)) fourth_between

    fifth_is : steps fourth F ≡ new
    fifth_is = same_tables (steps fourth F) new cells_new.nears.in_order i (λ c. cells_new.nears.has_columns c ∙ fourth_columns c) (λ q. cells_new.nears.has_keys q ∙ fourth_keys q)
        (λ q c key column. found_each text_order (λ x. cell_of (steps fourth F) q x ≡ cell_of new q x) new.columns c
        (found_each row_order (λ k. AllByRecursion (λ x. cell_of (steps fourth F) k x ≡ cell_of new k x) new.columns) (row_keys new) q cells_new.done key) column)

    after_two : steps old (A ++ B) ≡ second
    after_two = steps-append old A B

    after_three : steps old (A ++ B ++ C) ≡ third
    after_three = steps-append old (A ++ B) C ∙ ap (λ t. steps t C) after_two

    after_four : steps old (A ++ B ++ C ++ D) ≡ fourth
    after_four = steps-append old (A ++ B ++ C) D ∙ ap (λ t. steps t D) after_three

    pub changed_makes : steps old (lines_between label old new) ≡ new
    changed_makes = steps-append old (A ++ B ++ C ++ D) F ∙ ap (λ t. steps t F) after_four ∙ fifth_is

    pub changed_fits : fit_steps old (lines_between label old new) ≡ true
    changed_fits =
        let two = fit_steps-append old A B rows_gone.fit columns_gone.fit in
        let three = fit_steps-append old (A ++ B) C two (subst (λ (t : TableValue). fit_steps t C ≡ true) (sym after_two) columns_new.fit) in
        let four = fit_steps-append old (A ++ B ++ C) D three (subst (λ (t : TableValue). fit_steps t D ≡ true) (sym after_three) rows_new.fit) in
        fit_steps-append old (A ++ B ++ C ++ D) F four (subst (λ (t : TableValue). fit_steps t F ≡ true) (sym after_four) cells_new.fit)
