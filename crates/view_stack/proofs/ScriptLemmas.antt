-- The lines of a script find what they read in the tables before all lines.
use Rattle.std.proofs.Common.{◌≡◌, ◌∙◌, ◌⊎◌, inl, inr, Bool, true, false, cond, ◌&&◌, ◌||◌, not, List, [], ◌∷◌, ◌++◌, Option, Some, None, map, refl, sym, ap, subst}
use Rattle.std.specs.Prelude.{filter, flat_map, unwrap_or}
use Rattle.std.specs.List.{list_any, AllByRecursion, filter_map, cons_option}
use Rattle.std.specs.List.Sorted.{IsStrictlySortedBy}
use Rattle.std.specs.Option.{option_map_or}
use Rattle.std.specs.Ordering.{is_eq}
use Rattle.std.specs.declared.cmp.Ordering.TheVariants.{Less, Equal, Greater}
use Rattle.ss_text.specs.Texts.{Text, Row, text_eq, row_eq, text_cmp, row_cmp, is_in}
use Rattle.ss_text.specs.Ascending.{by_order, ascending}
use Rattle.ss_text.proofs.KeyLemmas.{text_order, row_order}
use Rattle.ss_text.proofs.PairLemmas.{lookup_changed, ascending_ascends, turned}
use Rattle.ss_text.proofs.GroupLemmas.{all_filter, all_weaker}
use Rattle.flow_law.specs.Tables.{TableValue, TablesValue, empty_table, table_of, labels_of, row_keys, cell_of}
use Rattle.flow_law.specs.InOrder.{IsTable, AreTables}
use Rattle.flow_law.specs.Lines.{label_of, without_row, with_row, without_column, with_column, with_cell, at_table, with_table, after_line, after_lines, has_row, has_column, fits_table, fits_line, fit_lines}
use Rattle.flow_law.specs.Script.{columns_beyond, keys_beyond, cell_line, lines_between, lines_for, script}
use Rattle.flow_law.specs.declared.line.TableLine.{TableLine}
use Rattle.flow_law.specs.declared.line.TableLine.TheVariants.{TableMinus, TablePlus, RowMinus, ColumnMinus, ColumnPlus, RowPlus, Cell}
use Rattle.flow_law.proofs.TableLemmas.{empty_in_order, line_in_order}
use Rattle.flow_law.proofs.StepLemmas.{has_key, key_is_there, row_minus_keys, row_minus_cells, column_minus_columns, column_minus_keys, column_minus_cells, column_plus_columns, column_plus_keys, column_plus_cells, row_plus_keys, row_plus_cells, cell_cells, cell_no_column, cell_no_key}
use Rattle.flow_law.proofs.ScriptLaw.{lines_passed, script_fits, found_in_order}
use Rattle.change_script.specs.Fits.{TableFits}
use Rattle.flow_law.specs.declared.shape.Shape.{Shape}
use Rattle.view_meaning.proofs.OrderLemmas.{same_bytes, bytes_same, same_rows, rows_same}
use Rattle.view_stack.specs.Lifted.{row_of, goes_on, table_at}
use Rattle.view_stack.proofs.SaysLemmas.{and_first, and_second, not_true, or_right, or_false_left, or_false_right}
use Rattle.view_stack.proofs.LinesLemmas.{Agrees, Reads, AreBlocks, IsDynamic}
use Rattle.view_stack.proofs.LimitLemmas.{IsLegal}

-- ---- lists
pub all_append : {A : Type 0} (P : A → Type 0) (xs ys : List A) → AllByRecursion P xs → AllByRecursion P ys → AllByRecursion P (xs ++ ys)
all_append P [] ys h i = i
all_append P (x ∷ xs) ys h i = (h.0, all_append P xs ys h.1 i)

all_mapped : {A B : Type 0} (P : B → Type 0) (f : A → B) (xs : List A) → AllByRecursion (λ x. P (f x)) xs → AllByRecursion P (map f xs)
all_mapped P f [] h = tt
all_mapped P f (x ∷ xs) h = (h.0, all_mapped P f xs h.1)

pub all_of : {A : Type 0} (P : A → Type 0) (xs : List A) → ((x : A) → P x) → AllByRecursion P xs
all_of P [] h = tt
all_of P (x ∷ xs) h = (h x, all_of P xs h)

filter_passes : {A : Type 0} (p : A → Bool) (xs : List A) → AllByRecursion (λ x. p x ≡ true) (filter p xs)
filter_passes p [] = tt
filter_passes p (x ∷ xs) = by_test (p x) refl (filter_passes p xs)
  where
    by_test : (b : Bool) → p x ≡ b → AllByRecursion (λ y. p y ≡ true) (filter p xs) → AllByRecursion (λ y. p y ≡ true) (filter p (x ∷ xs))
    by_test true e rest = rw e (e, rest)
    by_test false e rest = rw e rest

assoc : {A : Type 0} (xs ys zs : List A) → (xs ++ ys) ++ zs ≡ xs ++ (ys ++ zs)
assoc [] ys zs = refl
assoc (x ∷ xs) ys zs = ap (λ l. x ∷ l) (assoc xs ys zs)

-- ---- lines behind others
reads_none : (before ts : TablesValue) (row : Option (Text × Row)) (lines : List TableLine) → Reads before ts None lines → Reads before ts row lines
reads_none before ts row [] h = tt
reads_none before ts row (line ∷ lines) h = (λ e. h.0 refl, h.1)

reads-append : (before ts : TablesValue) (row : Option (Text × Row)) (xs ys : List TableLine) → Reads before ts row xs → Reads before (after_lines ts xs) None ys → Reads before ts row (xs ++ ys)
reads-append before ts row [] ys h i = reads_none before ts row ys i
reads-append before ts row (x ∷ xs) ys h i = (h.0, reads-append before (after_line ts x) (row_of x) xs ys h.1 i)

fit_split : (ts : TablesValue) (xs ys : List TableLine) → fit_lines ts (xs ++ ys) ≡ true → (fit_lines ts xs ≡ true) × (fit_lines (after_lines ts xs) ys ≡ true)
fit_split ts [] ys h = (refl, h)
fit_split ts (x ∷ xs) ys h =
    let first = and_first (fits_line ts x) (fit_lines (after_line ts x) (xs ++ ys)) h in
    let rest = fit_split (after_line ts x) xs ys (and_second (fits_line ts x) (fit_lines (after_line ts x) (xs ++ ys)) h) in
    (rw first rest.0, rest.1)

-- ---- the lines of one table
-- its five parts
abbrev gone_rows : Text → TableValue → TableValue → List TableLine
gone_rows label told tnew = map (λ key. RowMinus label key) (keys_beyond (row_keys tnew) (row_keys told))

abbrev gone_columns : Text → TableValue → TableValue → List TableLine
gone_columns label told tnew = map (λ column. ColumnMinus label column) (columns_beyond tnew.columns told.columns)

abbrev new_columns : Text → TableValue → TableValue → List TableLine
new_columns label told tnew = map (λ column. ColumnPlus label column) (columns_beyond told.columns tnew.columns)

abbrev new_rows : Text → TableValue → TableValue → List TableLine
new_rows label told tnew = map (λ key. RowPlus label key) (keys_beyond (row_keys told) (row_keys tnew))

abbrev new_cells : Text → TableValue → TableValue → List TableLine
new_cells label told tnew = flat_map (λ key. filter_map (cell_line label told tnew key) tnew.columns) (row_keys tnew)

record Keeps (told tnew t : TableValue) : Type 0 where
  table : IsTable t
  own : (q : Row) (name : Text) → has_column name t ≡ true → has_key q t ≡ true → cell_of told q name ≡ cell_of t q name
  fresh : (q : Row) (name : Text) → has_key q told ≡ false → cell_of t q name ≡ []
  stays : (q : Row) → has_key q told ≡ true → has_key q tnew ≡ true → has_key q t ≡ true

module _ (label : Text) (told tnew : TableValue) where
  row_went : (t : TableValue) (k : Row) → has_row k t ≡ true → has_key k tnew ≡ false → Keeps told tnew t → Keeps told tnew (without_row k t)
  row_went t k there gone keeps = record { table = line_in_order (RowMinus label k) t keeps.table there; own = own; fresh = fresh; stays = stays }
    where
      own : (q : Row) (name : Text) → has_column name t ≡ true → has_key q (without_row k t) ≡ true → cell_of told q name ≡ cell_of (without_row k t) q name
      own q name column key =
          let both : (has_key q t && not (row_eq k q)) ≡ true = sym (row_minus_keys t k q) ∙ key in
          let other : row_eq q k ≡ false = turned row_order q k ∙ not_true (row_eq k q) (and_second (has_key q t) (not (row_eq k q)) both) in
          keeps.own q name column (and_first (has_key q t) (not (row_eq k q)) both) ∙ sym (row_minus_cells t k q name other)

      fresh : (q : Row) (name : Text) → has_key q told ≡ false → cell_of (without_row k t) q name ≡ []
      fresh q name absent = by_key (row_eq q k) refl
        where
          by_key : (b : Bool) → row_eq q k ≡ b → cell_of (without_row k t) q name ≡ []
          by_key true e =
              let same : row_eq k q ≡ true = turned row_order k q ∙ e in
              cell_no_key (without_row k t) q name (row_minus_keys t k q ∙ ap (λ (b : Bool). has_key q t && not b) same ∙ and_false (has_key q t))
            where
              and_false : (b : Bool) → (b && false) ≡ false
              and_false true = refl
              and_false false = refl
          by_key false e = row_minus_cells t k q name e ∙ keeps.fresh q name absent

      stays : (q : Row) → has_key q told ≡ true → has_key q tnew ≡ true → has_key q (without_row k t) ≡ true
      stays q old new = row_minus_keys t k q ∙ by_key (row_eq k q) refl
        where
          by_key : (b : Bool) → row_eq k q ≡ b → (has_key q t && not (row_eq k q)) ≡ true
          by_key true e = let bad : true ≡ false = sym new ∙ ap (λ (x : Row). has_key x tnew) (sym (rows_same k q e)) ∙ gone in absurd (cc)
          by_key false e = rw (e, keeps.stays q old new) refl

  column_went : (t : TableValue) (c : Text) → has_column c t ≡ true → Keeps told tnew t → Keeps told tnew (without_column c t)
  column_went t c there keeps = record { table = line_in_order (ColumnMinus label c) t keeps.table there; own = own; fresh = fresh; stays = stays }
    where
      same_keys : (q : Row) → has_key q (without_column c t) ≡ has_key q t
      same_keys q = ap (list_any (row_eq q)) (column_minus_keys t c)

      own : (q : Row) (name : Text) → has_column name (without_column c t) ≡ true → has_key q (without_column c t) ≡ true → cell_of told q name ≡ cell_of (without_column c t) q name
      own q name column key =
          let both : (has_column name t && not (text_eq c name)) ≡ true = sym (column_minus_columns t c name keeps.table there) ∙ column in
          let other : text_eq name c ≡ false = turned text_order name c ∙ not_true (text_eq c name) (and_second (has_column name t) (not (text_eq c name)) both) in
          keeps.own q name (and_first (has_column name t) (not (text_eq c name)) both) (sym (same_keys q) ∙ key) ∙ sym (column_minus_cells t c q name keeps.table there other)

      fresh : (q : Row) (name : Text) → has_key q told ≡ false → cell_of (without_column c t) q name ≡ []
      fresh q name absent = by_name (text_eq name c) refl
        where
          by_name : (b : Bool) → text_eq name c ≡ b → cell_of (without_column c t) q name ≡ []
          by_name true e =
              let same : text_eq c name ≡ true = turned text_order c name ∙ e in
              cell_no_column (without_column c t) q name (column_minus_columns t c name keeps.table there ∙ ap (λ (b : Bool). has_column name t && not b) same ∙ and_false (has_column name t))
            where
              and_false : (b : Bool) → (b && false) ≡ false
              and_false true = refl
              and_false false = refl
          by_name false e = column_minus_cells t c q name keeps.table there e ∙ keeps.fresh q name absent

      stays : (q : Row) → has_key q told ≡ true → has_key q tnew ≡ true → has_key q (without_column c t) ≡ true
      stays q old new = same_keys q ∙ keeps.stays q old new

  column_came : (t : TableValue) (c : Text) → has_column c t ≡ false → has_column c told ≡ false → Keeps told tnew t → Keeps told tnew (with_column c t)
  column_came t c absent new_column keeps = record { table = line_in_order (ColumnPlus label c) t keeps.table (ap not absent); own = own; fresh = fresh; stays = stays }
    where
      same_keys : (q : Row) → has_key q (with_column c t) ≡ has_key q t
      same_keys q = ap (list_any (row_eq q)) (column_plus_keys t c)

      same_cells : (q : Row) (name : Text) → cell_of (with_column c t) q name ≡ cell_of t q name
      same_cells q name = column_plus_cells t c q name keeps.table absent

      own : (q : Row) (name : Text) → has_column name (with_column c t) ≡ true → has_key q (with_column c t) ≡ true → cell_of told q name ≡ cell_of (with_column c t) q name
      own q name column key = by_name (text_eq name c) refl ∙ sym (same_cells q name)
        where
          by_name : (b : Bool) → text_eq name c ≡ b → cell_of told q name ≡ cell_of t q name
          by_name true e =
              let same : name ≡ c = bytes_same name c e in
              cell_no_column told q name (ap (λ (x : Text). has_column x told) same ∙ new_column) ∙ sym (cell_no_column t q name (ap (λ (x : Text). has_column x t) same ∙ absent))
          by_name false e =
              let either : (text_eq name c || has_column name t) ≡ true = sym (column_plus_columns t c name) ∙ column in
              keeps.own q name (sym (ap (λ (b : Bool). b || has_column name t) e) ∙ either) (sym (same_keys q) ∙ key)

      fresh : (q : Row) (name : Text) → has_key q told ≡ false → cell_of (with_column c t) q name ≡ []
      fresh q name none = same_cells q name ∙ keeps.fresh q name none

      stays : (q : Row) → has_key q told ≡ true → has_key q tnew ≡ true → has_key q (with_column c t) ≡ true
      stays q old new = same_keys q ∙ keeps.stays q old new

  row_came : (t : TableValue) (k : Row) → has_row k t ≡ false → has_key k told ≡ false → Keeps told tnew t → Keeps told tnew (with_row k t)
  row_came t k absent new_row keeps = record { table = line_in_order (RowPlus label k) t keeps.table (ap not absent); own = own; fresh = fresh; stays = stays }
    where
      same_cells : (q : Row) (name : Text) → cell_of (with_row k t) q name ≡ cell_of t q name
      same_cells q name = row_plus_cells t k q name keeps.table absent

      own : (q : Row) (name : Text) → has_column name t ≡ true → has_key q (with_row k t) ≡ true → cell_of told q name ≡ cell_of (with_row k t) q name
      own q name column key = by_key (row_eq q k) refl ∙ sym (same_cells q name)
        where
          by_key : (b : Bool) → row_eq q k ≡ b → cell_of told q name ≡ cell_of t q name
          by_key true e =
              let none : has_key q told ≡ false = ap (λ (x : Row). has_key x told) (rows_same q k e) ∙ new_row in
              cell_no_key told q name none ∙ sym (keeps.fresh q name none)
          by_key false e =
              let either : (row_eq q k || has_key q t) ≡ true = sym (row_plus_keys t k q) ∙ key in
              keeps.own q name column (sym (ap (λ (b : Bool). b || has_key q t) e) ∙ either)

      fresh : (q : Row) (name : Text) → has_key q told ≡ false → cell_of (with_row k t) q name ≡ []
      fresh q name none = same_cells q name ∙ keeps.fresh q name none

      stays : (q : Row) → has_key q told ≡ true → has_key q tnew ≡ true → has_key q (with_row k t) ≡ true
      stays q old new = row_plus_keys t k q ∙ ap (λ (b : Bool). row_eq q k || b) (keeps.stays q old new) ∙ or_right (row_eq q k)

  module _ (before : TablesValue) (at : table_at before label ≡ told) where
    abbrev Then : List TableLine → Type 0
    Then rest = (us : TablesValue) (u : TableValue) → table_of us label ≡ Some u → Keeps told tnew u → fit_lines us rest ≡ true → Reads before us None rest

    step_found : (ts : TablesValue) (t : TableValue) (f : TableValue → TableValue) → table_of ts label ≡ Some t → table_of (at_table label f ts) label ≡ Some (f t)
    step_found ts t f e = lookup_changed text_order f ts label label ∙ rw (same_bytes label, e) refl

    agrees_at : (ts : TablesValue) (t : TableValue) (k : Row) → table_of ts label ≡ Some t → Agrees told t k → Agrees (table_at before label) (table_at ts label) k
    agrees_at ts t k e agrees name column =
        let now : table_at ts label ≡ t = ap (λ (o : Option TableValue). unwrap_or o empty_table) e in
        ap (λ (u : TableValue). cell_of u k name) at ∙ agrees name (ap (has_column name) (sym now) ∙ column) ∙ ap (λ (u : TableValue). cell_of u k name) (sym now)

    fits_here : (ts : TablesValue) (t : TableValue) (line : TableLine) → table_of ts label ≡ Some t → option_map_or (fits_table line) (table_of ts label) false ≡ true → fits_table line t ≡ true
    fits_here ts t line e h = sym (ap (λ (o : Option TableValue). option_map_or (fits_table line) o false) e) ∙ h

    rows_go : (ks : List Row) (rest : List TableLine) (ts : TablesValue) (t : TableValue) → table_of ts label ≡ Some t → Keeps told tnew t → AllByRecursion (λ k. has_key k tnew ≡ false) ks
        → fit_lines ts (map (λ key. RowMinus label key) ks ++ rest) ≡ true → Then rest → Reads before ts None (map (λ key. RowMinus label key) ks ++ rest)
    rows_go [] rest ts t e keeps gone fits then = then ts t e keeps fits
    rows_go (k ∷ ks) rest ts t e keeps gone fits then =
        let first = fits_here ts t (RowMinus label k) e (and_first _ (fit_lines (after_line ts (RowMinus label k)) (map (λ key. RowMinus label key) ks ++ rest)) fits) in
        let second = and_second (fits_line ts (RowMinus label k)) (fit_lines (after_line ts (RowMinus label k)) (map (λ key. RowMinus label key) ks ++ rest)) fits in (
          λ off. agrees_at ts t k e (λ name column. keeps.own k name column (sym (key_is_there k t) ∙ first)),
          rows_go ks rest (at_table label (without_row k) ts) (without_row k t) (step_found ts t (without_row k) e) (row_went t k first gone.0 keeps) gone.1 second then,
        )

    columns_go : (cs : Row) (rest : List TableLine) (ts : TablesValue) (t : TableValue) → table_of ts label ≡ Some t → Keeps told tnew t
        → fit_lines ts (map (λ column. ColumnMinus label column) cs ++ rest) ≡ true → Then rest → Reads before ts None (map (λ column. ColumnMinus label column) cs ++ rest)
    columns_go [] rest ts t e keeps fits then = then ts t e keeps fits
    columns_go (c ∷ cs) rest ts t e keeps fits then =
        let first = fits_here ts t (ColumnMinus label c) e (and_first _ (fit_lines (after_line ts (ColumnMinus label c)) (map (λ column. ColumnMinus label column) cs ++ rest)) fits) in
        let second = and_second (fits_line ts (ColumnMinus label c)) (fit_lines (after_line ts (ColumnMinus label c)) (map (λ column. ColumnMinus label column) cs ++ rest)) fits in
        (λ off. tt, columns_go cs rest (at_table label (without_column c) ts) (without_column c t) (step_found ts t (without_column c) e) (column_went t c first keeps) second then)

    columns_come : (cs : Row) (rest : List TableLine) (ts : TablesValue) (t : TableValue) → table_of ts label ≡ Some t → Keeps told tnew t → AllByRecursion (λ c. has_column c told ≡ false) cs
        → fit_lines ts (map (λ column. ColumnPlus label column) cs ++ rest) ≡ true → Then rest → Reads before ts None (map (λ column. ColumnPlus label column) cs ++ rest)
    columns_come [] rest ts t e keeps new fits then = then ts t e keeps fits
    columns_come (c ∷ cs) rest ts t e keeps new fits then =
        let first = fits_here ts t (ColumnPlus label c) e (and_first _ (fit_lines (after_line ts (ColumnPlus label c)) (map (λ column. ColumnPlus label column) cs ++ rest)) fits) in
        let second = and_second (fits_line ts (ColumnPlus label c)) (fit_lines (after_line ts (ColumnPlus label c)) (map (λ column. ColumnPlus label column) cs ++ rest)) fits in
        (λ off. tt, columns_come cs rest (at_table label (with_column c) ts) (with_column c t) (step_found ts t (with_column c) e) (column_came t c (not_true (has_column c t) first) new.0 keeps) new.1 second then)

    rows_come : (ks : List Row) (rest : List TableLine) (ts : TablesValue) (t : TableValue) → table_of ts label ≡ Some t → Keeps told tnew t → AllByRecursion (λ k. has_key k told ≡ false) ks
        → fit_lines ts (map (λ key. RowPlus label key) ks ++ rest) ≡ true → Then rest → Reads before ts None (map (λ key. RowPlus label key) ks ++ rest)
    rows_come [] rest ts t e keeps new fits then = then ts t e keeps fits
    rows_come (k ∷ ks) rest ts t e keeps new fits then =
        let first = fits_here ts t (RowPlus label k) e (and_first _ (fit_lines (after_line ts (RowPlus label k)) (map (λ key. RowPlus label key) ks ++ rest)) fits) in
        let second = and_second (fits_line ts (RowPlus label k)) (fit_lines (after_line ts (RowPlus label k)) (map (λ key. RowPlus label key) ks ++ rest)) fits in (
          λ off. agrees_at ts t k e (λ name column. cell_no_key told k name new.0 ∙ sym (keeps.fresh k name new.0)),
          reads_none before (at_table label (with_row k) ts) (Some (label, k)) (map (λ key. RowPlus label key) ks ++ rest)
              (rows_come ks rest (at_table label (with_row k) ts) (with_row k t) (step_found ts t (with_row k) e) (row_came t k (not_true (has_row k t) first) new.0 keeps) new.1 second then),
        )

    -- the cells of one row
    abbrev Elsewhere : Row → TableValue → TableValue → Type 0
    Elsewhere k t u = (q : Row) (name : Text) → row_eq q k ≡ false → has_column name u ≡ true → (has_column name t ≡ true) × (cell_of t q name ≡ cell_of u q name)

    row_cells : (k : Row) (cs : Row) (later : List TableLine) (row : Option (Text × Row)) (ts : TablesValue) (t : TableValue) → table_of ts label ≡ Some t → IsTable t → (row ≡ Some (label, k)) ⊎ Agrees told t k
        → fit_lines ts (filter_map (cell_line label told tnew k) cs ++ later) ≡ true
        → ((us : TablesValue) (u : TableValue) → table_of us label ≡ Some u → IsTable u → Elsewhere k t u → fit_lines us later ≡ true → Reads before us None later)
        → Reads before ts row (filter_map (cell_line label told tnew k) cs ++ later)
    row_cells k [] later row ts t e table on fits then = reads_none before ts row later (then ts t e table (λ q name other column. (column, refl)) fits)
    row_cells k (c ∷ cs) later row ts t e table on fits then = by_test (text_eq (cell_of told k c) (cell_of tnew k c)) refl (row_cells k cs later)
      where
        by_test : (b : Bool) → text_eq (cell_of told k c) (cell_of tnew k c) ≡ b
            → ((next : Option (Text × Row)) (us : TablesValue) (u : TableValue) → table_of us label ≡ Some u → IsTable u → (next ≡ Some (label, k)) ⊎ Agrees told u k → fit_lines us (filter_map (cell_line label told tnew k) cs ++ later) ≡ true
            → ((vs : TablesValue) (w : TableValue) → table_of vs label ≡ Some w → IsTable w → Elsewhere k u w → fit_lines vs later ≡ true → Reads before vs None later) → Reads before us next (filter_map (cell_line label told tnew k) cs ++ later))
            → Reads before ts row (filter_map (cell_line label told tnew k) (c ∷ cs) ++ later)
        by_test true same rest =
            let lines : filter_map (cell_line label told tnew k) (c ∷ cs) ++ later ≡ filter_map (cell_line label told tnew k) cs ++ later =
            ap (λ (b : Bool). cons_option (cond b None (Some (Cell label c (cell_of tnew k c) k))) (filter_map (cell_line label told tnew k) cs) ++ later) same in
            subst (λ (ls : List TableLine). Reads before ts row ls) (sym lines) (rest row ts t e table on (subst (λ (ls : List TableLine). fit_lines ts ls ≡ true) lines fits) then)
        by_test false same rest =
            let line = Cell label c (cell_of tnew k c) k in
            let lines : filter_map (cell_line label told tnew k) (c ∷ cs) ++ later ≡ line ∷ (filter_map (cell_line label told tnew k) cs ++ later) =
            ap (λ (b : Bool). cons_option (cond b None (Some line)) (filter_map (cell_line label told tnew k) cs) ++ later) same in
            let fits_now = subst (λ (ls : List TableLine). fit_lines ts ls ≡ true) lines fits in
            let first = fits_here ts t line e (and_first _ (fit_lines (after_line ts line) (filter_map (cell_line label told tnew k) cs ++ later)) fits_now) in
            let second = and_second (fits_line ts line) (fit_lines (after_line ts line) (filter_map (cell_line label told tnew k) cs ++ later)) fits_now in
            let there = and_first (has_row k t) (has_column c t) first in
            let column = and_second (has_row k t) (has_column c t) first in
            subst (λ (ls : List TableLine). Reads before ts row ls) (sym lines) (
              head on,
              rest (Some (label, k)) (after_line ts line) (with_cell k c (cell_of tnew k c) t) (step_found ts t (with_cell k c (cell_of tnew k c)) e) (line_in_order line t table first) (inl refl) second (λ vs w f i elsewhere fit.
                  then vs w f i (λ q name other col.
                  let both = elsewhere q name other col in
                  (both.0, sym (cell_cells t k c (cell_of tnew k c) q name table there column ∙ rw other refl) ∙ both.1)) fit),
            )
          where
            head : (row ≡ Some (label, k)) ⊎ Agrees told t k → goes_on row (Cell label c (cell_of tnew k c) k) ≡ false → Agrees (table_at before label) (table_at ts label) k
            head (inl is) off =
                let on_row : goes_on row (Cell label c (cell_of tnew k c) k) ≡ true = ap (λ (o : Option (Text × Row)). goes_on o (Cell label c (cell_of tnew k c) k)) is ∙ rw (same_bytes label, same_rows k) refl in
                let bad : true ≡ false = sym on_row ∙ off in
                absurd (cc)
            head (inr agrees) off = agrees_at ts t k e agrees

    all_cells : (ks : List Row) (ts : TablesValue) (t : TableValue) → table_of ts label ≡ Some t → IsTable t → AllByRecursion (λ q. Agrees told t q) ks → IsStrictlySortedBy row_cmp ks
        → fit_lines ts (flat_map (λ key. filter_map (cell_line label told tnew key) tnew.columns) ks) ≡ true → Reads before ts None (flat_map (λ key. filter_map (cell_line label told tnew key) tnew.columns) ks)
    unfolding IsStrictlySortedBy
    all_cells [] ts t e table agrees sorted fits = tt
    all_cells (k ∷ ks) ts t e table agrees sorted fits =
        row_cells k tnew.columns (flat_map (λ key. filter_map (cell_line label told tnew key) tnew.columns) ks) None ts t e table (inr agrees.0) fits (λ us u f i elsewhere fit.
        all_cells ks us u f i (others u elsewhere ks sorted.0 agrees.1) sorted.1 fit)
      where
        others : (u : TableValue) → Elsewhere k t u → (qs : List Row) → AllByRecursion (λ q. row_cmp k q ≡ Less) qs → AllByRecursion (λ q. Agrees told t q) qs → AllByRecursion (λ q. Agrees told u q) qs
        others u elsewhere [] less h = tt
        others u elsewhere (q ∷ qs) less h =
            let other : row_eq q k ≡ false = turned row_order q k ∙ row_order.ties k q ∙ ap is_eq less.0 in
            (λ name column. let both = elsewhere q name other column in h.0 name both.0 ∙ both.1, others u elsewhere qs less.1 h.1)

    -- the key of a new row finds its cells
    new_key : (t : TableValue) (q : Row) → Keeps told tnew t → has_key q tnew ≡ true → Agrees told t q
    new_key t q keeps new name column = by_now (has_key q t) refl
      where
        by_now : (b : Bool) → has_key q t ≡ b → cell_of told q name ≡ cell_of t q name
        by_now true e = keeps.own q name column e
        by_now false e = by_old (has_key q told) refl
          where
            by_old : (b : Bool) → has_key q told ≡ b → cell_of told q name ≡ cell_of t q name
            by_old true f = let bad : true ≡ false = sym (keeps.stays q f new) ∙ e in absurd (cc)
            by_old false f = cell_no_key told q name f ∙ sym (cell_no_key t q name e)

    new_keys : (t : TableValue) → Keeps told tnew t → (ks : List Row) → ((q : Row) → list_any (row_eq q) ks ≡ true → has_key q tnew ≡ true) → AllByRecursion (λ q. Agrees told t q) ks
    new_keys t keeps [] all = tt
    new_keys t keeps (k ∷ ks) all =
        (new_key t k keeps (all k (ap (λ (b : Bool). b || list_any (row_eq k) ks) (same_rows k))), new_keys t keeps ks (λ q h. all q (ap (λ (b : Bool). row_eq q k || b) h ∙ or_right (row_eq q k))))

    joined : lines_between label told tnew ≡ (gone_rows label told tnew) ++ ((gone_columns label told tnew) ++ ((new_columns label told tnew) ++ ((new_rows label told tnew) ++ (new_cells label told tnew))))
    joined = assoc ((gone_rows label told tnew) ++ (gone_columns label told tnew) ++ (new_columns label told tnew)) (new_rows label told tnew) (new_cells label told tnew) ∙ assoc ((gone_rows label told tnew) ++ (gone_columns label told tnew)) (new_columns label told tnew) ((new_rows label told tnew) ++ (new_cells label told tnew)) ∙ assoc (gone_rows label told tnew) (gone_columns label told tnew) ((new_columns label told tnew) ++ ((new_rows label told tnew) ++ (new_cells label told tnew)))

    start : IsTable told → Keeps told tnew told
    start table = record { table = table; own = λ q name column key. refl; fresh = λ q name none. cell_no_key told q name none; stays = λ q old new. old }

    pub between_reads : (ts : TablesValue) → table_of ts label ≡ Some told → IsTable told → IsTable tnew → fit_lines ts (lines_between label told tnew) ≡ true → Reads before ts None (lines_between label told tnew)
    between_reads ts e old_table new_table fits =
        subst (λ (ls : List TableLine). Reads before ts None ls) (sym joined)
        (rows_go (keys_beyond (row_keys tnew) (row_keys told)) ((gone_columns label told tnew) ++ ((new_columns label told tnew) ++ ((new_rows label told tnew) ++ (new_cells label told tnew)))) ts told e (start old_table) (all_weaker _ _ (λ k h. not_true (has_key k tnew) h) _ (filter_passes (λ key. not (list_any (row_eq key) (row_keys tnew))) (row_keys told)))
        (subst (λ (ls : List TableLine). fit_lines ts ls ≡ true) joined fits) (λ us u f keeps fit.
        columns_go (columns_beyond tnew.columns told.columns) ((new_columns label told tnew) ++ ((new_rows label told tnew) ++ (new_cells label told tnew))) us u f keeps fit (λ us u f keeps fit.
        columns_come (columns_beyond told.columns tnew.columns) ((new_rows label told tnew) ++ (new_cells label told tnew)) us u f keeps (all_weaker _ _ (λ c h. not_true (has_column c told) h) _ (filter_passes (λ column. not (is_in column told.columns)) tnew.columns)) fit (λ us u f keeps fit.
        rows_come (keys_beyond (row_keys told) (row_keys tnew)) (new_cells label told tnew) us u f keeps (all_weaker _ _ (λ k h. not_true (has_key k told) h) _ (filter_passes (λ key. not (list_any (row_eq key) (row_keys told))) (row_keys tnew))) fit (λ us u f keeps fit.
        all_cells (row_keys tnew) us u f keeps.table (new_keys u keeps (row_keys tnew) (λ q h. h)) new_table.keys fit)))))

-- ---- the lines of all tables
each_between : (P : TableLine → Type 0) (label : Text) (old new : TableValue) → ((k : Row) → P (RowMinus label k)) → ((c : Text) → P (ColumnMinus label c)) → AllByRecursion (λ c. P (ColumnPlus label c)) new.columns
    → ((k : Row) → P (RowPlus label k)) → ((c v : Text) (k : Row) → P (Cell label c v k)) → AllByRecursion P (lines_between label old new)
each_between P label old new minus column_minus column_plus plus cell =
    all_append P (gone_rows label old new ++ gone_columns label old new ++ new_columns label old new ++ new_rows label old new) (new_cells label old new)
    (all_append P (gone_rows label old new ++ gone_columns label old new ++ new_columns label old new) (new_rows label old new)
    (all_append P (gone_rows label old new ++ gone_columns label old new) (new_columns label old new)
    (all_append P (gone_rows label old new) (gone_columns label old new)
    (all_mapped P (λ key. RowMinus label key) _ (all_of _ (keys_beyond (row_keys new) (row_keys old)) minus))
    (all_mapped P (λ column. ColumnMinus label column) _ (all_of _ (columns_beyond new.columns old.columns) column_minus)))
    (all_mapped P (λ column. ColumnPlus label column) _ (all_filter (λ c. P (ColumnPlus label c)) (λ column. not (is_in column old.columns)) new.columns column_plus)))
    (all_mapped P (λ key. RowPlus label key) _ (all_of _ (keys_beyond (row_keys old) (row_keys new)) plus)))
    (rows (row_keys new))
  where
    cells : (key : Row) (columns : Row) → AllByRecursion P (filter_map (cell_line label old new key) columns)
    cells key [] = tt
    cells key (c ∷ cs) = split (text_eq (cell_of old key c) (cell_of new key c)) (cells key cs)
      where
        split : (b : Bool) → AllByRecursion P (filter_map (cell_line label old new key) cs) → AllByRecursion P (cons_option (cond b None (Some (Cell label c (cell_of new key c) key))) (filter_map (cell_line label old new key) cs))
        split true rest = rest
        split false rest = (cell c (cell_of new key c) key, rest)

    rows : (keys : List Row) → AllByRecursion P (flat_map (λ key. filter_map (cell_line label old new key) new.columns) keys)
    rows [] = tt
    rows (k ∷ ks) = all_append P (filter_map (cell_line label old new k) new.columns) (flat_map (λ key. filter_map (cell_line label old new key) new.columns) ks) (cells k new.columns) (rows ks)

block_labels : (label : Text) (o n : Option TableValue) → AllByRecursion (λ line. label_of line ≡ label) (lines_for label o n)
block_labels label None None = tt
block_labels label (Some old) None = (refl, tt)
block_labels label None (Some new) = (refl, each_between (λ line. label_of line ≡ label) label empty_table new (λ k. refl) (λ c. refl) (all_of _ new.columns (λ c. refl)) (λ k. refl) (λ c v k. refl))
block_labels label (Some old) (Some new) = each_between (λ line. label_of line ≡ label) label old new (λ k. refl) (λ c. refl) (all_of _ new.columns (λ c. refl)) (λ k. refl) (λ c v k. refl)

other_labels : (m l : Text) (lines : List TableLine) → AllByRecursion (λ line. label_of line ≡ l) lines → text_eq m l ≡ false → is_in m (map label_of lines) ≡ false
other_labels m l [] h other = refl
other_labels m l (line ∷ lines) h other = rw (ap (text_eq m) h.0 ∙ other) (other_labels m l lines h.1 other)

less_in : (l m : Text) (ls : List Text) → AllByRecursion (λ y. text_cmp l y ≡ Less) ls → is_in m ls ≡ true → text_eq m l ≡ false
less_in l m [] less h = absurd (cc)
less_in l m (x ∷ ls) less h = by_first (text_eq m x) refl (less_in l m ls less.1)
  where
    by_first : (b : Bool) → text_eq m x ≡ b → (is_in m ls ≡ true → text_eq m l ≡ false) → text_eq m l ≡ false
    by_first true e rest = turned text_order m l ∙ text_order.ties l m ∙ ap is_eq (ap (text_cmp l) (bytes_same m x e) ∙ less.0)
    by_first false e rest = rest (sym (ap (λ (b : Bool). b || is_in m ls) e) ∙ h)

new_found : (ts : TablesValue) (l : Text) → table_of ts l ≡ None → table_of (with_table l ts) l ≡ Some empty_table
new_found [] l none = rw (same_bytes l) refl
new_found (p ∷ ps) l none = by_test (text_eq l p.0) refl (new_found ps l)
  where
    by_test : (b : Bool) → text_eq l p.0 ≡ b → (table_of ps l ≡ None → table_of (with_table l ps) l ≡ Some empty_table) → table_of (with_table l (p ∷ ps)) l ≡ Some empty_table
    by_test true e rest = let bad : Some p.1 ≡ None = sym (ap (λ (b : Bool). cond b (Some p.1) (table_of ps l)) e) ∙ none in absurd (cc)
    by_test false e rest =
        let behind = rest (sym (ap (λ (b : Bool). cond b (Some p.1) (table_of ps l)) e) ∙ none) in
        elim (text_cmp l p.0) as (λ o. text_cmp l p.0 ≡ o → table_of (by_order o ((l, empty_table) ∷ p ∷ ps) (p ∷ ps) (p ∷ with_table l ps)) l ≡ Some empty_table)
        [ Less ↦ λ i. rw (same_bytes l) refl | Equal ↦ λ i. absurd_equal i | Greater ↦ λ i. rw e behind ] refl
      where
        absurd_equal : text_cmp l p.0 ≡ Equal → table_of (p ∷ ps) l ≡ Some empty_table
        absurd_equal i = let bad : true ≡ false = sym (text_order.ties l p.0 ∙ ap is_eq i) ∙ e in absurd (cc)

module _ (before new : TablesValue) (old_order : AreTables before) (new_order : AreTables new) where
  abbrev block : Text → List TableLine
  block label = lines_for label (table_of before label) (table_of new label)

  block_reads : (label : Text) (ts : TablesValue) (o n : Option TableValue) → table_of before label ≡ o → table_of new label ≡ n → table_of ts label ≡ o → fit_lines ts (lines_for label o n) ≡ true → Reads before ts None (lines_for label o n)
  block_reads label ts None None e f now fits = tt
  block_reads label ts (Some t) None e f now fits = (λ off. tt, tt)
  block_reads label ts None (Some t) e f now fits = (
    λ off. tt,
    between_reads label empty_table t before (ap (λ (o : Option TableValue). unwrap_or o empty_table) e) (with_table label ts) (new_found ts label now) empty_in_order (found_in_order new label t new_order f)
        (and_second (fits_line ts (TablePlus label)) (fit_lines (with_table label ts) (lines_between label empty_table t)) fits),
  )
  block_reads label ts (Some t) (Some u) e f now fits =
      between_reads label t u before (ap (λ (o : Option TableValue). unwrap_or o empty_table) e) ts now (found_in_order before label t old_order e) (found_in_order new label u new_order f) fits

  labels_read : (labels : List Text) (ts : TablesValue) → IsStrictlySortedBy text_cmp labels → ((l : Text) → is_in l labels ≡ true → table_of ts l ≡ table_of before l) → fit_lines ts (flat_map block labels) ≡ true → Reads before ts None (flat_map block labels)
  unfolding IsStrictlySortedBy
  labels_read [] ts sorted same fits = tt
  labels_read (l ∷ ls) ts sorted same fits =
      let fit = fit_split ts (block l) (flat_map block ls) fits in
      let now = same l (ap (λ (b : Bool). b || is_in l ls) (same_bytes l)) in
      reads-append before ts None (block l) (flat_map block ls) (block_reads l ts (table_of before l) (table_of new l) refl refl now fit.0)
      (labels_read ls (after_lines ts (block l)) sorted.1 (λ m h.
      lines_passed m ts (block l) (other_labels m l (block l) (block_labels l (table_of before l) (table_of new l)) (less_in l m ls sorted.0 h))
      ∙ same m (ap (λ (b : Bool). text_eq m l || b) h ∙ or_right (text_eq m l))) fit.1)

  -- labels
  in_appended : (m : Text) (xs ys : List Text) → is_in m xs ≡ false → is_in m ys ≡ false → is_in m (xs ++ ys) ≡ false
  in_appended m [] ys h i = i
  in_appended m (x ∷ xs) ys h i = rw (or_false_left (text_eq m x) (is_in m xs) h) (in_appended m xs ys (or_false_right (text_eq m x) (is_in m xs) h) i)

  mapped_append : (xs ys : List TableLine) → map label_of (xs ++ ys) ≡ map label_of xs ++ map label_of ys
  mapped_append [] ys = refl
  mapped_append (x ∷ xs) ys = ap (λ l. label_of x ∷ l) (mapped_append xs ys)

  not_among : (l : Text) (ls : List Text) → AllByRecursion (λ y. text_cmp l y ≡ Less) ls → is_in l (map label_of (flat_map block ls)) ≡ false
  not_among l [] less = refl
  not_among l (m ∷ ls) less =
      ap (is_in l) (mapped_append (block m) (flat_map block ls))
      ∙ in_appended l (map label_of (block m)) (map label_of (flat_map block ls)) (other_labels l m (block m) (block_labels m (table_of before m) (table_of new m)) (text_order.ties l m ∙ ap is_eq less.0)) (not_among l ls less.1)

  blocks_append : (l : Text) (xs ys : List TableLine) → AllByRecursion (λ line. label_of line ≡ l) xs → is_in l (map label_of ys) ≡ false → AreBlocks ys → AreBlocks (xs ++ ys)
  blocks_append l [] ys h gone rest = rest
  blocks_append l (x ∷ []) [] h gone rest = (tt, tt)
  blocks_append l (x ∷ []) (y ∷ ys) h gone rest = (λ other. ap (λ (m : Text). is_in m (map label_of ys)) h.0 ∙ or_false_right (text_eq l (label_of y)) (is_in l (map label_of ys)) gone, rest)
  blocks_append l (x ∷ z ∷ xs) ys h gone rest = (λ other. absurd (same other), blocks_append l (z ∷ xs) ys h.1 gone rest)
    where
      same : text_eq (label_of x) (label_of z) ≡ false → ⊥
      same other = let bad : true ≡ false = sym (ap (λ (m : Text). text_eq (label_of x) m) (h.1.0 ∙ sym h.0) ∙ same_bytes (label_of x)) ∙ other in absurd (cc)

  are_blocks : (labels : List Text) → IsStrictlySortedBy text_cmp labels → AreBlocks (flat_map block labels)
  unfolding IsStrictlySortedBy
  are_blocks [] sorted = tt
  are_blocks (l ∷ ls) sorted = blocks_append l (block l) (flat_map block ls) (block_labels l (table_of before l) (table_of new l)) (not_among l ls sorted.0) (are_blocks ls sorted.1)

  -- what holds of each line that may come holds of all
  module _ (P : TableLine → Type 0) (gone : (l : Text) → P (TableMinus l)) (come : (l : Text) (t : TableValue) → table_of new l ≡ Some t → P (TablePlus l)) (row_gone : (l : Text) (k : Row) → P (RowMinus l k))
      (column_gone : (l c : Text) → P (ColumnMinus l c)) (columns_come : (l : Text) (t : TableValue) → table_of new l ≡ Some t → AllByRecursion (λ c. P (ColumnPlus l c)) t.columns) (row_comes : (l : Text) (k : Row) → P (RowPlus l k))
      (cell : (l c v : Text) (k : Row) → P (Cell l c v k)) where
    block_each : (label : Text) (o n : Option TableValue) → table_of new label ≡ n → AllByRecursion P (lines_for label o n)
    block_each label None None f = tt
    block_each label (Some old) None f = (gone label, tt)
    block_each label None (Some t) f = (come label t f, each_between P label empty_table t (row_gone label) (column_gone label) (columns_come label t f) (row_comes label) (cell label))
    block_each label (Some old) (Some t) f = each_between P label old t (row_gone label) (column_gone label) (columns_come label t f) (row_comes label) (cell label)

    each_block : (labels : List Text) → AllByRecursion P (flat_map block labels)
    each_block [] = tt
    each_block (l ∷ ls) = all_append P (block l) (flat_map block ls) (block_each l (table_of before l) (table_of new l) refl) (each_block ls)

    script_each : AllByRecursion P (script before new)
    unfolding script
    script_each = each_block (ascending text_cmp (labels_of before ++ labels_of new))

  -- columns that come are no constant columns
  pub script_dynamic : (constants : Row) → ((l : Text) (t : TableValue) → table_of new l ≡ Some t → AllByRecursion (λ c. is_in c constants ≡ false) t.columns) → AllByRecursion (IsDynamic constants) (script before new)
  script_dynamic constants dynamic = script_each (IsDynamic constants) (λ l. tt) (λ l t e. tt) (λ l k. tt) (λ l c. tt) dynamic (λ l k. tt) (λ l c v k. tt)

  -- tables that come have legal labels, and columns come only where there is a variable column
  pub script_legal : (shape : Shape) → ((l : Text) (t : TableValue) → table_of new l ≡ Some t → TableFits shape l t) → AllByRecursion (IsLegal shape) (script before new)
  script_legal shape fits = script_each (IsLegal shape) (λ l. tt) (λ l t e. (fits l t e).legal) (λ l k. tt) (λ l c. tt) (λ l t e. (fits l t e).spot) (λ l k. tt) (λ l c v k. tt)

  abbrev labels : List Text
  labels = ascending text_cmp (labels_of before ++ labels_of new)

  all_fit : fit_lines before (flat_map block labels) ≡ true
  unfolding script
  all_fit = script_fits before new new_order old_order

  pub script_reads : Reads before before None (script before new)
  unfolding script
  script_reads = labels_read labels before (ascending_ascends text_order (labels_of before ++ labels_of new)) (λ l h. refl) all_fit

  pub script_blocks : AreBlocks (script before new)
  unfolding script
  script_blocks = are_blocks labels (ascending_ascends text_order (labels_of before ++ labels_of new))
