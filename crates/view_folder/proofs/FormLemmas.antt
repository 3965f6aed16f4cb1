-- The records of a table's file are read back as the table, and what is read as a table are its records.
use Rattle.std.proofs.Common.{◌≡◌, ◌≤◌, ◌+◌, ◌∷◌, ◌++◌, ◌∙◌, [], ℕ, List, Bool, true, false, not, Option, Some, None, refl, sym, ap, subst, length, map, take, drop, append_assoc, arith, is_some, eq-eqb}
use Rattle.std.specs.Prelude.{◌&&◌, unwrap_or, option_map, bytes_eq, if◌then◌else◌}
use Rattle.std.specs.Option.{option_or}
use Rattle.std.specs.List.{AllByRecursion, IsDistinct, list_all, list_any}
use Rattle.std.specs.List.Sorted.{IsStrictlySortedBy}
use Rattle.std.specs.declared.cmp.Ordering.TheVariants.{Less}
use Rattle.std.proofs.lemmas.Bool.{and_parts, or_parts, not-true}
use Rattle.std.proofs.lemmas.List.{take-append-drop}
use Rattle.ss_text.specs.Texts.{Text, Row, text_cmp, row_cmp, row_eq, is_in}
use Rattle.ss_text.specs.Label.{is_column_label, has_label_length, is_column_byte}
use Rattle.ss_text.proofs.KeyLemmas.{text_order, row_order, equal_is, equal_itself, less_differs}
use Rattle.ss_text.proofs.PairLemmas.{turned}
use Rattle.csv_catalog.specs.FileFaults.{first_repeated, repeated_after}
use Rattle.csv_catalog.proofs.JudgedLemmas.{both_none}
use Rattle.flow_law.specs.declared.shape.Shape.{Shape}
use Rattle.flow_law.specs.Tables.{TableValue, row_keys}
use Rattle.view_folder.specs.declared.held.TablesFault.{TablesFault}
use Rattle.view_folder.specs.declared.held.TablesFault.TheVariants.{NameTwice, Ragged, NotThisView}
use Rattle.view_folder.specs.TableFiles.{table_records}
use Rattle.flow_law.specs.Records.{spliced}
use Rattle.view_folder.specs.Records.{ascends, ragged, dynamic_part, constant_part, are_columns, is_header, are_of_view, key_and_cells, table_in, records_fault}
use Rattle.change_script.specs.Fits.{IsForm}
use Rattle.view_folder.specs.Forms.{HasForm}
use Rattle.view_folder.proofs.RecordLemmas.{strict_ascends, none_ragged, dynamic_length}
use Rattle.view_folder.proofs.PartLemmas.{NoneWithout, no_cells, whole, spliced_length, cells_back, key_back, parts_back, header_long}

-- which of two faults comes

pub none_mapped : {A B : Type 0} (f : A → B) (o : Option A) → option_map f o ≡ None → o ≡ None
none_mapped f None e = refl
none_mapped f (Some x) e = absurd (cc)

passed : (b : Bool) (f : TablesFault) → (if b then None else Some f) ≡ None → b ≡ true
passed true f e = refl
passed false f e = absurd (cc)

module _ (shape : Shape) (form : IsForm shape) where
  none_by_test : (o : Option ℕ) (columns : Row) → list_all (λ column. is_some o && is_column_label column shape.constants) columns ≡ true → AllByRecursion (λ (c : Text). is_some o ≡ true) columns
  none_by_test o [] h = tt
  none_by_test o (c ∷ cs) h =
      let both = and_parts (is_some o && is_column_label c shape.constants) (list_all (λ column. is_some o && is_column_label column shape.constants) cs) h in
      ((and_parts (is_some o) (is_column_label c shape.constants) both.0).0, none_by_test o cs both.1)

  all_there : (i : ℕ) (columns : Row) → AllByRecursion (λ (c : Text). is_some (Some i) ≡ true) columns
  all_there i [] = tt
  all_there i (c ∷ cs) = (refl, all_there i cs)

  empty : (xs : Row) → length xs ≡ 0 → xs ≡ []
  empty [] e = refl
  empty (x ∷ xs) e = absurd (omega (arith, e))

  -- a row of the header's length has cells only where the header has columns
  none_in_row : (header row : Row) → length row ≡ length header → NoneWithout shape form (dynamic_part shape header) → NoneWithout shape form (dynamic_part shape row)
  none_in_row header row same h = by_spot shape.spot refl h
    where
      by_spot : (o : Option ℕ) → shape.spot ≡ o → AllByRecursion (λ (c : Text). is_some o ≡ true) (dynamic_part shape header) → AllByRecursion (λ (c : Text). is_some o ≡ true) (dynamic_part shape row)
      by_spot (Some i) e h = all_there i (dynamic_part shape row)
      by_spot None e h =
          let none = no_cells shape form None (dynamic_part shape header) refl h in
          rw (empty (dynamic_part shape row) (dynamic_length shape row header same ∙ ap (λ (r : Row). length r) none)) tt

  rows_back : (header : Row) (rows : List Row) → length shape.constants ≤ length header → NoneWithout shape form (dynamic_part shape header) → AllByRecursion (λ (row : Row). length row ≡ length header) rows
      → map (λ (r : Row × Row). spliced shape.spot r.0 r.1) (map (key_and_cells shape) rows) ≡ rows
  rows_back header [] long none h = refl
  rows_back header (row ∷ rows) long none h =
      let row_long : length shape.constants ≤ length row = omega (arith, long, h.0) in
      ap (λ (r : Row). r ∷ map (λ (r : Row × Row). spliced shape.spot r.0 r.1) (map (key_and_cells shape) rows)) (parts_back shape form row row_long (none_in_row header row h.0 none))
      ∙ ap (λ (rs : List Row). row ∷ rs) (rows_back header rows long none h.1)

  -- what is read as a table are its records
  pub records_are : (file : Text) (records : List Row) → records_fault shape file records ≡ None → table_records shape (table_in shape records) ≡ records
  records_are file [] e = absurd (cc)
  records_are file (header ∷ rows) e =
      let first = both_none (option_map (NameTwice file) (first_repeated header)) _ e in
      let second = both_none (option_map (λ (r : ℕ × ℕ). Ragged file r.0 (length header) r.1) (ragged (length header) 2 rows)) _ first.1 in
      let lengths = none_ragged (length header) 2 rows (none_mapped _ (ragged (length header) 2 rows) second.0) in
      let of_view = and_parts (is_header shape header) (ascends row_cmp (map (constant_part shape) rows)) (passed (are_of_view shape header rows) (NotThisView file) second.1) in
      let parts = and_parts (row_eq (constant_part shape header) shape.constants) (are_columns shape (dynamic_part shape header)) of_view.0 in
      let constants = equal_is row_order (constant_part shape header) shape.constants parts.0 in
      let columns = and_parts (ascends text_cmp (dynamic_part shape header)) (list_all (λ column. is_some shape.spot && is_column_label column shape.constants) (dynamic_part shape header)) parts.1 in
      let none = none_by_test shape.spot (dynamic_part shape header) columns.1 in
      let long = header_long shape form header constants in
      ap (λ (r : Row). spliced shape.spot r (dynamic_part shape header) ∷ map (λ (r : Row × Row). spliced shape.spot r.0 r.1) (map (key_and_cells shape) rows)) (sym constants)
      ∙ ap (λ (r : Row). r ∷ map (λ (r : Row × Row). spliced shape.spot r.0 r.1) (map (key_and_cells shape) rows)) (parts_back shape form header long none)
      ∙ ap (λ (rs : List Row). header ∷ rs) (rows_back header rows long none lengths)

-- texts of which none stands earlier are not repeated
abbrev Apart : Text → Row → Type 0
Apart t ts = AllByRecursion (λ u. bytes_eq t u ≡ false) ts

apart_front : (t : Text) (xs ys : Row) → Apart t (xs ++ ys) → Apart t xs × Apart t ys
apart_front t [] ys h = (tt, h)
apart_front t (x ∷ xs) ys h = let rest = apart_front t xs ys h.1 in ((h.0, rest.0), rest.1)

apart_both : (t : Text) (xs ys : Row) → Apart t xs → Apart t ys → Apart t (xs ++ ys)
apart_both t [] ys h i = i
apart_both t (x ∷ xs) ys h i = (h.0, apart_both t xs ys h.1 i)

not_seen : (seen : Row) (t : Text) (ts : Row) → IsDistinct bytes_eq (seen ++ t ∷ ts) → is_in t seen ≡ false
unfolding IsDistinct
not_seen [] t ts h = refl
not_seen (x ∷ xs) t ts h =
    let apart = (apart_front x xs (t ∷ ts) h.0).1.0 in
    rw (turned text_order t x ∙ apart) (not_seen xs t ts h.1)

none_repeated : (seen ts : Row) → IsDistinct bytes_eq (seen ++ ts) → repeated_after seen ts ≡ None
unfolding repeated_after
none_repeated seen [] h = refl
none_repeated seen (t ∷ ts) h = rw (not_seen seen t ts h) (none_repeated (seen ++ t ∷ []) ts (subst (IsDistinct bytes_eq) (sym (append_assoc seen (t ∷ []) ts)) h))

-- texts between others, from which they all differ
abbrev AllApart : Row → Row → Type 0
AllApart xs ys = AllByRecursion (λ x. Apart x ys) xs

with_back : (bs cs : Row) → IsDistinct bytes_eq bs → IsDistinct bytes_eq cs → AllApart bs cs → IsDistinct bytes_eq (bs ++ cs)
unfolding IsDistinct
with_back [] cs h i apart = i
with_back (b ∷ bs) cs h i apart = (apart_both b bs cs h.0 apart.0, with_back bs cs h.1 i apart.1)

between : (fs bs cs : Row) → IsDistinct bytes_eq (fs ++ cs) → IsDistinct bytes_eq bs → AllApart fs bs → AllApart bs cs → IsDistinct bytes_eq (fs ++ (bs ++ cs))
unfolding IsDistinct
between [] bs cs h i before behind = with_back bs cs i h behind
between (f ∷ fs) bs cs h i before behind =
    let apart = apart_front f fs cs h.0 in
    (apart_both f fs (bs ++ cs) apart.0 (apart_both f bs cs before.0 apart.1), between fs bs cs h.1 i before.1 behind)

less_apart : (x : Text) (ys : Row) → AllByRecursion (λ y. text_cmp x y ≡ Less) ys → Apart x ys
less_apart x [] h = tt
less_apart x (y ∷ ys) h = (turned text_order x y ∙ less_differs text_order x y h.0, less_apart x ys h.1)

ascending_distinct : (xs : Row) → IsStrictlySortedBy text_cmp xs → IsDistinct bytes_eq xs
unfolding IsDistinct IsStrictlySortedBy
ascending_distinct [] h = tt
ascending_distinct (x ∷ xs) h = (less_apart x xs h.0, ascending_distinct xs h.1)

-- a legal column differs from all constant columns
none_like : (column : Text) (constants : Row) → list_any (λ c. bytes_eq c column) constants ≡ false → Apart column constants
none_like column [] h = tt
none_like column (c ∷ cs) h =
    let both = or_parts (bytes_eq c column) (list_any (λ d. bytes_eq d column) cs) h in
    (turned text_order column c ∙ both.0, none_like column cs both.1)

column_apart : (column : Text) (constants : Row) → is_column_label column constants ≡ true → Apart column constants
unfolding is_column_label
column_apart column constants h =
    none_like column constants (not-true (list_any (λ c. bytes_eq c column) constants) (and_parts (has_label_length column && list_all is_column_byte column) (not (list_any (λ c. bytes_eq c column) constants)) h).1)

columns_apart : (columns constants : Row) → AllByRecursion (λ column. is_column_label column constants ≡ true) columns → AllApart columns constants
columns_apart [] constants h = tt
columns_apart (c ∷ cs) constants h = (column_apart c constants h.0, columns_apart cs constants h.1)

parts_apart : (xs ys zs : Row) → AllApart xs (ys ++ zs) → AllApart xs ys × AllApart xs zs
parts_apart [] ys zs h = (tt, tt)
parts_apart (x ∷ xs) ys zs h = let one = apart_front x ys zs h.0 in let rest = parts_apart xs ys zs h.1 in ((one.0, rest.0), (one.1, rest.1))

one_apart : (xs : Row) (y : Text) → AllByRecursion (λ x. bytes_eq x y ≡ false) xs → Apart y xs
one_apart [] y h = tt
one_apart (x ∷ xs) y h = (turned text_order y x ∙ h.0, one_apart xs y h.1)

firsts : (xs : Row) (y : Text) (ys : Row) → AllApart xs (y ∷ ys) → AllByRecursion (λ x. bytes_eq x y ≡ false) xs × AllApart xs ys
firsts [] y ys h = (tt, tt)
firsts (x ∷ xs) y ys h = let rest = firsts xs y ys h.1 in ((h.0.0, rest.0), (h.0.1, rest.1))

apart_turned : (xs ys : Row) → AllApart xs ys → AllApart ys xs
apart_turned xs [] h = tt
apart_turned xs (y ∷ ys) h = let parts = firsts xs y ys h in (one_apart xs y parts.0, apart_turned xs ys parts.1)

-- the records of a table that has the form
module _ (shape : Shape) (form : IsForm shape) (t : TableValue) (has : HasForm shape t) where
  abbrev n : ℕ
  n = length shape.constants

  abbrev s : ℕ
  s = unwrap_or shape.spot n

  header_distinct : IsDistinct bytes_eq (spliced shape.spot shape.constants t.columns)
  header_distinct =
      let apart = columns_apart t.columns shape.constants has.columns in
      let both = parts_apart t.columns (take s shape.constants) (drop s shape.constants) (subst (AllApart t.columns) (sym (take-append-drop s shape.constants)) apart) in
      subst (IsDistinct bytes_eq) (sym (whole shape form shape.constants t.columns refl has.spot))
      (between (take s shape.constants) t.columns (drop s shape.constants) (subst (IsDistinct bytes_eq) (sym (take-append-drop s shape.constants)) form.distinct) (ascending_distinct t.columns has.in_order.columns) (apart_turned t.columns (take s shape.constants) both.0) both.1)

  abbrev record_of : Row × Row → Row
  record_of r = spliced shape.spot r.0 r.1

  -- no cells where there are no columns
  cells_without : (cells : Row) → length cells ≡ length t.columns → NoneWithout shape form cells
  cells_without cells e = by_spot shape.spot refl has.spot
    where
      by_spot : (o : Option ℕ) → shape.spot ≡ o → AllByRecursion (λ (c : Text). is_some o ≡ true) t.columns → AllByRecursion (λ (c : Text). is_some o ≡ true) cells
      by_spot (Some i) f h = all_there shape form i cells
      by_spot None f h = rw (empty shape form cells (e ∙ ap (λ (r : Row). length r) (no_cells shape form None t.columns refl h))) tt

  abbrev Fits : Row × Row → Type 0
  Fits r = (length r.0 ≡ n) × (length r.1 ≡ length t.columns)

  both_fit : (rows : List (Row × Row)) → AllByRecursion (λ (r : Row × Row). length r.0 ≡ n) rows → AllByRecursion (λ (r : Row × Row). length r.1 ≡ length t.columns) rows → AllByRecursion Fits rows
  both_fit [] h i = tt
  both_fit (r ∷ rs) h i = ((h.0, i.0), both_fit rs h.1 i.1)

  rows_of_form : AllByRecursion Fits t.rows
  rows_of_form = both_fit t.rows has.keys has.in_order.cells

  rows_read : (rows : List (Row × Row)) → AllByRecursion Fits rows → map (key_and_cells shape) (map record_of rows) ≡ rows
  rows_read [] h = refl
  rows_read (r ∷ rs) h =
      let none = cells_without r.1 h.0.1 in
      rw (key_back shape form r.0 r.1 h.0.0 none, cells_back shape form r.0 r.1 h.0.0 none, rows_read rs h.1) refl

  keys_read : (rows : List (Row × Row)) → AllByRecursion Fits rows → map (constant_part shape) (map record_of rows) ≡ map (λ (r : Row × Row). r.0) rows
  keys_read [] h = refl
  keys_read (r ∷ rs) h = rw (key_back shape form r.0 r.1 h.0.0 (cells_without r.1 h.0.1), keys_read rs h.1) refl

  none_is_ragged : (nth : ℕ) (rows : List (Row × Row)) → AllByRecursion Fits rows → ragged (n + length t.columns) nth (map record_of rows) ≡ None
  unfolding ragged
  none_is_ragged nth [] h = refl
  none_is_ragged nth (r ∷ rs) h =
      let same = spliced_length shape form r.0 r.1 h.0.0 (cells_without r.1 h.0.1) ∙ ap (λ (m : ℕ). n + m) h.0.1 in
      rw (eq-eqb (length (record_of r)) (n + length t.columns) same) (none_is_ragged (nth + 1) rs h.1)

  columns_pass : (columns : Row) → AllByRecursion (λ column. is_column_label column shape.constants ≡ true) columns → AllByRecursion (λ (c : Text). is_some shape.spot ≡ true) columns
      → list_all (λ column. is_some shape.spot && is_column_label column shape.constants) columns ≡ true
  columns_pass [] h i = refl
  columns_pass (c ∷ cs) h i = rw (i.0, h.0, columns_pass cs h.1 i.1) refl

  header_is : is_header shape (spliced shape.spot shape.constants t.columns) ≡ true
  header_is = rw (
    key_back shape form shape.constants t.columns refl has.spot,
    cells_back shape form shape.constants t.columns refl has.spot,
    equal_itself row_order shape.constants,
    strict_ascends text_cmp t.columns has.in_order.columns,
    columns_pass t.columns has.columns has.spot,
  ) refl

  abbrev header : Row
  header = spliced shape.spot shape.constants t.columns

  abbrev rows : List Row
  rows = map record_of t.rows

  of_view : are_of_view shape header rows ≡ true
  of_view = ap (λ (b : Bool). b && ascends row_cmp (map (constant_part shape) rows)) header_is ∙ ap (ascends row_cmp) (keys_read t.rows rows_of_form) ∙ strict_ascends row_cmp (row_keys t) has.in_order.keys

  neither : {A : Type 0} (a b : Option A) → a ≡ None → b ≡ None → option_or a b ≡ None
  neither {A} a b e f = ap (λ (o : Option A). option_or o b) e ∙ f

  -- have no fault
  pub written_sound : (file : Text) → records_fault shape file (table_records shape t) ≡ None
  written_sound file =
      let names = ap (option_map (NameTwice file)) (none_repeated [] header header_distinct) in
      let lengths = ap (option_map (λ (r : ℕ × ℕ). Ragged file r.0 (length header) r.1)) (ap (λ (m : ℕ). ragged m 2 rows) (spliced_length shape form shape.constants t.columns refl has.spot) ∙ none_is_ragged 2 t.rows rows_of_form) in
      let view = ap (λ (b : Bool). if b then None else Some (NotThisView file)) of_view in
      neither _ _ names (neither _ _ lengths view)

  -- and are read as the table
  pub written_read : table_in shape (table_records shape t) ≡ t
  written_read = rw (cells_back shape form shape.constants t.columns refl has.spot, rows_read t.rows rows_of_form) refl
