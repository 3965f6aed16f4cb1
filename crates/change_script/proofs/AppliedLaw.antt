-- The script of old and new tables, applied to the old ones, gives the new ones.
use Rattle.std.proofs.Common.{◌≡◌, Bool, true, false, ◌&&◌, not, cond, map, List, [], ◌∷◌, ◌++◌, length, Option, Some, None, refl, sym, ap, ◌∙◌, subst, eq-eqb}
use Rattle.std.specs.Prelude.{flat_map, is_some, Ok, if◌then◌else◌}
use Rattle.std.specs.List.{AllByRecursion, list_any, filter_map, cons_option}
use Rattle.std.specs.Option.{option_map_or}
use Rattle.std.proofs.lemmas.Bool.{and_parts}
use Rattle.ss_text.specs.Texts.{Text, Row, text_eq, text_cmp, row_eq, is_in}
use Rattle.ss_text.specs.Label.{is_column_label}
use Rattle.ss_text.specs.Ascending.{ascending}
use Rattle.ss_text.proofs.KeyLemmas.{text_order, equal_is}
use Rattle.ss_text.proofs.PairLemmas.{found_any}
use Rattle.ss_text.proofs.GroupLemmas.{all_filter, all_weaker}
use Rattle.flow_law.specs.declared.shape.Shape.{Shape}
use Rattle.flow_law.specs.declared.line.TableLine.{TableLine}
use Rattle.flow_law.specs.declared.line.TableLine.TheVariants.{TableMinus, TablePlus, RowMinus, ColumnMinus, ColumnPlus, RowPlus, Cell}
use Rattle.flow_law.specs.Tables.{TableValue, TablesValue, empty_table, table_of, labels_of, row_keys, cell_of}
use Rattle.flow_law.specs.InOrder.{AreTables}
use Rattle.flow_law.specs.Lines.{label_of, after_line, after_lines, has_table, fits_table, fits_line, fit_lines}
use Rattle.flow_law.specs.Script.{columns_beyond, keys_beyond, cell_line, lines_between, lines_for, script}
use Rattle.flow_law.proofs.ScriptLaw.{script_makes, script_fits}
use Rattle.change_script.specs.declared.applying.ApplyFault.TheVariants.{KeyLength}
use Rattle.change_script.specs.Applied.{wrong_key, key_fault, label_fault, can_have, has_needed, has_added, is_target_there, is_added_there, applied_line, applied_behind, applied}
use Rattle.change_script.specs.Fits.{TableFits, TablesFit}

-- a line that no view of this form refuses for its key, its labels or its column
record IsLawful (shape : Shape) (line : TableLine) : Type 0 where
  key : key_fault shape.constants line ≡ None
  label : label_fault shape.constants line ≡ None
  column : can_have shape.spot line ≡ true

pub has_table_is : (ts : TablesValue) (label : Text) → has_table ts label ≡ is_some (table_of ts label)
has_table_is ts label = sym (found_any text_order ts label)

-- a lawful line applies where it fits
module _ (shape : Shape) (ts : TablesValue) where
  by_tests : (line : TableLine) → IsLawful shape line → is_target_there shape.spot ts line ≡ true → is_added_there ts line ≡ false → applied_line shape ts line ≡ Ok (after_line ts line)
  by_tests line h there none = rw (h.key, h.label, there, none) refl

  -- what a line of a table needs and adds, by whether it fits
  needs : (line : TableLine) (t : TableValue) → fits_table line t ≡ true → has_needed line t ≡ true
  needs (TableMinus label) t h = refl
  needs (TablePlus label) t h = refl
  needs (RowMinus label key) t h = h
  needs (ColumnMinus label column) t h = h
  needs (ColumnPlus label column) t h = refl
  needs (RowPlus label key) t h = refl
  needs (Cell label column value key) t h = h

  not_true : (b : Bool) → not b ≡ true → b ≡ false
  not_true true h = absurd (cc)
  not_true false h = refl

  adds : (line : TableLine) (t : TableValue) → fits_table line t ≡ true → has_added line t ≡ false
  adds (TableMinus label) t h = refl
  adds (TablePlus label) t h = refl
  adds (RowMinus label key) t h = refl
  adds (ColumnMinus label column) t h = refl
  adds (ColumnPlus label column) t h = not_true _ h
  adds (RowPlus label key) t h = not_true _ h
  adds (Cell label column value key) t h = refl

  found : (line : TableLine) (o : Option TableValue) → option_map_or (fits_table line) o false ≡ true → (option_map_or (has_needed line) o false ≡ true) × (option_map_or (has_added line) o false ≡ false)
  found line None h = absurd (cc)
  found line (Some t) h = (needs line t h, adds line t h)

  both : (a b : Bool) → a ≡ true → b ≡ true → (a && b) ≡ true
  both true b h i = i
  both false b h i = absurd (cc)

  in_table : (line : TableLine) → IsLawful shape line → option_map_or (fits_table line) (table_of ts (label_of line)) false ≡ true
      → (can_have shape.spot line && option_map_or (has_needed line) (table_of ts (label_of line)) false ≡ true) × (option_map_or (has_added line) (table_of ts (label_of line)) false ≡ false)
  in_table line h fits = let both_of = found line (table_of ts (label_of line)) fits in (both _ _ h.column both_of.0, both_of.1)

  line_applies : (line : TableLine) → IsLawful shape line → fits_line ts line ≡ true → applied_line shape ts line ≡ Ok (after_line ts line)
  line_applies (TableMinus label) h fits = by_tests (TableMinus label) h (whether (table_of ts label) (sym (has_table_is ts label) ∙ fits)) (no_added (table_of ts label))
    where
      whether : (o : Option TableValue) → is_some o ≡ true → option_map_or (has_needed (TableMinus label)) o false ≡ true
      whether None e = absurd (cc)
      whether (Some t) e = refl

      no_added : (o : Option TableValue) → option_map_or (has_added (TableMinus label)) o false ≡ false
      no_added None = refl
      no_added (Some t) = refl
  line_applies (TablePlus label) h fits = by_tests (TablePlus label) h refl (not_true (has_table ts label) fits)
  line_applies (RowMinus label key) h fits = let t = in_table (RowMinus label key) h fits in by_tests (RowMinus label key) h t.0 t.1
  line_applies (ColumnMinus label column) h fits = let t = in_table (ColumnMinus label column) h fits in by_tests (ColumnMinus label column) h t.0 t.1
  line_applies (ColumnPlus label column) h fits = let t = in_table (ColumnPlus label column) h fits in by_tests (ColumnPlus label column) h t.0 t.1
  line_applies (RowPlus label key) h fits = let t = in_table (RowPlus label key) h fits in by_tests (RowPlus label key) h t.0 t.1
  line_applies (Cell label column value key) h fits = let t = in_table (Cell label column value key) h fits in by_tests (Cell label column value key) h t.0 t.1

lines_apply : (shape : Shape) (ts : TablesValue) (lines : List TableLine) → AllByRecursion (IsLawful shape) lines → fit_lines ts lines ≡ true → applied shape ts lines ≡ Ok (after_lines ts lines)
lines_apply shape ts [] h fit = refl
lines_apply shape ts (line ∷ lines) h fit =
    let fits = and_parts (fits_line ts line) (fit_lines (after_line ts line) lines) fit in
    ap (λ r. applied_behind shape r lines) (line_applies shape ts line h.0 fits.0) ∙ lines_apply shape (after_line ts line) lines h.1 fits.1

-- the lines of a script are lawful where its tables fit
module _ {B : Type 0} (P : B → Type 0) where
  all_mapped : {A : Type 0} (f : A → B) (xs : List A) → AllByRecursion (λ x. P (f x)) xs → AllByRecursion P (map f xs)
  all_mapped f [] h = tt
  all_mapped f (x ∷ xs) h = (h.0, all_mapped f xs h.1)

  all_both : (xs ys : List B) → AllByRecursion P xs → AllByRecursion P ys → AllByRecursion P (xs ++ ys)
  all_both [] ys h i = i
  all_both (x ∷ xs) ys h i = (h.0, all_both xs ys h.1 i)

  all_flat : {A : Type 0} (f : A → List B) (xs : List A) → AllByRecursion (λ x. AllByRecursion P (f x)) xs → AllByRecursion P (flat_map f xs)
  all_flat f [] h = tt
  all_flat f (x ∷ xs) h = all_both (f x) (flat_map f xs) h.0 (all_flat f xs h.1)

each : {A : Type 0} (P : A → Type 0) (xs : List A) → ((x : A) → P x) → AllByRecursion P xs
each P [] h = tt
each P (x ∷ xs) h = (h x, each P xs h)

module _ (shape : Shape) where
  abbrev L : TableLine → Type 0
  L = IsLawful shape

  key_ok : (key : Row) → length key ≡ length shape.constants → wrong_key shape.constants key ≡ None
  key_ok key e = ap (λ b. if b then None else Some (KeyLength (length shape.constants) (length key))) (eq-eqb (length key) (length shape.constants) e)

  keys_fit : (label : Text) (t : TableValue) → TableFits shape label t → AllByRecursion (λ (key : Row). length key ≡ length shape.constants) (row_keys t)
  keys_fit label t h = rows t.rows h.keys
    where
      rows : (rs : List (Row × Row)) → AllByRecursion (λ (r : Row × Row). length r.0 ≡ length shape.constants) rs → AllByRecursion (λ (key : Row). length key ≡ length shape.constants) (row_keys (record { columns = t.columns; rows = rs }))
      rows [] h = tt
      rows (r ∷ rs) h = (h.0, rows rs h.1)

  lawful_row : (key : Row) → length key ≡ length shape.constants → (label : Text) → L (RowMinus label key) × L (RowPlus label key)
  lawful_row key e label = (record { key = key_ok key e; label = refl; column = refl }, record { key = key_ok key e; label = refl; column = refl })

  column_ok : (label column : Text) → is_column_label column shape.constants ≡ true → label_fault shape.constants (ColumnPlus label column) ≡ None
  column_ok label column e = rw e refl

  cells : (label : Text) (old new : TableValue) (key : Row) → length key ≡ length shape.constants → (columns : Row) → AllByRecursion (λ (column : Text). is_some shape.spot ≡ true) columns → AllByRecursion L (filter_map (cell_line label old new key) columns)
  cells label old new key e [] h = tt
  cells label old new key e (c ∷ cs) h = split (text_eq (cell_of old key c) (cell_of new key c)) (cells label old new key e cs h.1)
    where
      split : (b : Bool) → AllByRecursion L (filter_map (cell_line label old new key) cs)
          → AllByRecursion L (cons_option (if b then None else Some (Cell label c (cell_of new key c) key)) (filter_map (cell_line label old new key) cs))
      split true rest = rest
      split false rest = (record { key = key_ok key e; label = refl; column = h.0 }, rest)

  columns_spot : (label : Text) (t : TableValue) → TableFits shape label t → AllByRecursion (λ (column : Text). (is_column_label column shape.constants ≡ true) × (is_some shape.spot ≡ true)) t.columns
  columns_spot label t h = pairs t.columns h.columns h.spot
    where
      pairs : (cs : Row) → AllByRecursion (λ column. is_column_label column shape.constants ≡ true) cs → AllByRecursion (λ (column : Text). is_some shape.spot ≡ true) cs → AllByRecursion (λ (column : Text). (is_column_label column shape.constants ≡ true) × (is_some shape.spot ≡ true)) cs
      pairs [] h i = tt
      pairs (c ∷ cs) h i = ((h.0, i.0), pairs cs h.1 i.1)

  abbrev Spots : Row → Type 0
  Spots columns = AllByRecursion (λ (column : Text). is_some shape.spot ≡ true) columns

  abbrev Keyed : List Row → Type 0
  Keyed keys = AllByRecursion (λ (key : Row). length key ≡ length shape.constants) keys

  rows_lawful : (f : Row → TableLine) → ((key : Row) → length key ≡ length shape.constants → L (f key)) → (others keys : List Row) → Keyed keys → AllByRecursion L (map f (keys_beyond others keys))
  rows_lawful f lawful others keys h =
      let P = λ (key : Row). length key ≡ length shape.constants in
      let beyond = all_filter P (λ key. not (list_any (row_eq key) others)) keys h in
      all_mapped L f (keys_beyond others keys) (all_weaker P (λ key. L (f key)) lawful (keys_beyond others keys) beyond)

  columns_lawful : {P : Text → Type 0} (f : Text → TableLine) → ((column : Text) → P column → L (f column)) → (others columns : Row) → AllByRecursion P columns → AllByRecursion L (map f (columns_beyond others columns))
  columns_lawful {P} f lawful others columns h =
      let beyond = all_filter P (λ column. not (is_in column others)) columns h in
      all_mapped L f (columns_beyond others columns) (all_weaker P (λ column. L (f column)) lawful (columns_beyond others columns) beyond)

  changed_lawful : (label : Text) (old new : TableValue) → Spots old.columns → Keyed (row_keys old) → TableFits shape label new → AllByRecursion L (lines_between label old new)
  changed_lawful label old new spots keyed h =
      let A = map (λ key. RowMinus label key) (keys_beyond (row_keys new) (row_keys old)) in
      let B = map (λ column. ColumnMinus label column) (columns_beyond new.columns old.columns) in
      let C = map (λ column. ColumnPlus label column) (columns_beyond old.columns new.columns) in
      let D = map (λ key. RowPlus label key) (keys_beyond (row_keys old) (row_keys new)) in
      let E = flat_map (λ key. filter_map (cell_line label old new key) new.columns) (row_keys new) in
      let new_keyed = keys_fit label new h in
      all_both L (A ++ B ++ C ++ D) E
      (all_both L (A ++ B ++ C) D
      (all_both L (A ++ B) C
      (all_both L A B (rows_lawful (λ key. RowMinus label key) (λ key e. (lawful_row key e label).0) (row_keys new) (row_keys old) keyed)
      (columns_lawful {P = λ (column : Text). is_some shape.spot ≡ true} (λ column. ColumnMinus label column) (λ column s. record { key = refl; label = refl; column = s }) new.columns old.columns spots))
      (columns_lawful {P = λ (column : Text). (is_column_label column shape.constants ≡ true) × (is_some shape.spot ≡ true)} (λ column. ColumnPlus label column) (λ column s. record { key = refl; label = column_ok label column s.0; column = s.1 }) old.columns new.columns (columns_spot label new h)))
      (rows_lawful (λ key. RowPlus label key) (λ key e. (lawful_row key e label).1) (row_keys old) (row_keys new) new_keyed))
      (all_flat L (λ key. filter_map (cell_line label old new key) new.columns) (row_keys new)
      (all_weaker (λ (key : Row). length key ≡ length shape.constants) (λ key. AllByRecursion L (filter_map (cell_line label old new key) new.columns)) (λ key e. cells label old new key e new.columns h.spot) (row_keys new) new_keyed))

  abbrev Found : Text → Option TableValue → Type 0
  Found label None = Unit {0}
  Found label (Some t) = TableFits shape label t

  label_lawful : (label : Text) (o n : Option TableValue) → Found label o → Found label n → AllByRecursion L (lines_for label o n)
  label_lawful label None None h i = tt
  label_lawful label (Some old) None h i = (record { key = refl; label = refl; column = refl }, tt)
  label_lawful label None (Some new) h i = (record { key = refl; label = rw i.legal refl; column = refl }, changed_lawful label empty_table new tt tt i)
  label_lawful label (Some old) (Some new) h i = changed_lawful label old new h.spot (keys_fit label old h) i

  same_label : (a b : Text) → text_eq a b ≡ true → a ≡ b
  same_label a b e = equal_is text_order a b e

  found_fits : (ts : TablesValue) (label : Text) → TablesFit shape ts → Found label (table_of ts label)
  found_fits [] label h = tt
  found_fits (p ∷ ps) label h = by_label (text_eq label p.0) refl (found_fits ps label h.1)
    where
      by_label : (b : Bool) → text_eq label p.0 ≡ b → Found label (table_of ps label) → Found label (cond b (Some p.1) (table_of ps label))
      by_label true e rest = subst (λ (l : Text). TableFits shape l p.1) (sym (same_label label p.0 e)) h.0
      by_label false e rest = rest

  script_lawful : (old new : TablesValue) → TablesFit shape old → TablesFit shape new → AllByRecursion L (script old new)
  unfolding script
  script_lawful old new h i =
      let labels = ascending text_cmp (labels_of old ++ labels_of new) in
      all_flat L (λ label. lines_for label (table_of old label) (table_of new label)) labels
      (each (λ label. AllByRecursion L (lines_for label (table_of old label) (table_of new label))) labels (λ label. label_lawful label (table_of old label) (table_of new label) (found_fits old label h) (found_fits new label i)))

  pub script_applies : (old new : TablesValue) → AreTables old → AreTables new → TablesFit shape old → TablesFit shape new → applied shape old (script old new) ≡ Ok new
  script_applies old new in_order new_in_order h i =
      lines_apply shape old (script old new) (script_lawful old new h i) (script_fits old new new_in_order in_order) ∙ ap Ok (script_makes old new new_in_order in_order)
