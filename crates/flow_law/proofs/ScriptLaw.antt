-- The script of old and new tables takes the old ones to the new ones, each line fitting.
use Rattle.std.proofs.Common.{◌≡◌, ◌∷◌, ◌++◌, [], ℕ, Bool, true, false, cond, List, Option, Some, None, refl, sym, ◌∙◌, ap, subst, map}
use Rattle.std.specs.Prelude.{not, ◌&&◌, ◌||◌, flat_map, is_some, option_map, if◌then◌else◌}
use Rattle.std.specs.List.{AllByRecursion, list_any, filter_map, cons_option}
use Rattle.std.specs.List.Sorted.{IsStrictlySortedBy}
use Rattle.std.specs.Map.{keys_of}
use Rattle.std.specs.Option.{IfSome, option_map_or}
use Rattle.std.specs.declared.cmp.Ordering.TheVariants.{Less, Equal, Greater}
use Rattle.std.proofs.lemmas.Bool.{false≢true}
use Rattle.std.proofs.lemmas.List.Folds.{list_any-append}
use Rattle.ss_text.specs.Texts.{Text, Row, text_eq, text_cmp, is_in}
use Rattle.ss_text.specs.Ascending.{by_order, ascending}
use Rattle.ss_text.specs.Keys.{IsPlaceFor}
use Rattle.ss_text.proofs.KeyLemmas.{text_order, equal_itself, less_differs, place_there, place_missing, lacks_for}
use Rattle.ss_text.proofs.PairLemmas.{lookup_changed, lookup_kept, lookup_gone, lookup_inserted, found_any, same_pairs, ascending_ascends, any_ascending, any_behind, found_each}
use Rattle.flow_law.specs.Tables.{TableValue, TablesValue, empty_table, table_of, tables_at, label_in, labels_of, row_keys, cell_of}
use Rattle.flow_law.specs.InOrder.{IsTable, AreTables}
use Rattle.flow_law.specs.Lines.{label_of, table_after, fits_table, at_table, with_table, after_line, after_lines, has_table, fits_line, fit_lines}
use Rattle.flow_law.specs.Script.{cell_line, lines_between, lines_for, script, keys_beyond, columns_beyond}
use Rattle.flow_law.specs.declared.line.TableLine.{TableLine}
use Rattle.flow_law.specs.declared.line.TableLine.TheVariants.{TableMinus, TablePlus, RowMinus, ColumnMinus, ColumnPlus, RowPlus, Cell}
use Rattle.flow_law.proofs.TableLemmas.{line_in_order}
use Rattle.flow_law.proofs.LabelLemmas.{table_found, table_removed, table_removed_in_order, table_placed, table_placed_in_order, table_changed, table_changed_in_order, table_at_in_order}
use Rattle.flow_law.proofs.GroupLemmas.{steps, fit_steps}
use Rattle.flow_law.proofs.TableScript.{changed_makes, changed_fits}

and_both : (a b : Bool) → a ≡ true → b ≡ true → (a && b) ≡ true
and_both true b h i = i
and_both false b h i = absurd (cc)

first_of_both : (a b : Bool) → (a && b) ≡ true → a ≡ true
first_of_both true b h = refl
first_of_both false b h = absurd (cc)

second_of_both : (a b : Bool) → (a && b) ≡ true → b ≡ true
second_of_both true b h = h
second_of_both false b h = absurd (cc)

neither : (a b : Bool) → (a || b) ≡ false → record { first : a ≡ false; second : b ≡ false }
neither true b h = absurd (cc)
neither false b h = record { first = refl; second = h }

pub after_lines-append : (ts : TablesValue) (xs ys : List TableLine) → after_lines ts (xs ++ ys) ≡ after_lines (after_lines ts xs) ys
after_lines-append ts [] ys = refl
after_lines-append ts (x ∷ xs) ys = after_lines-append (after_line ts x) xs ys

pub fit_lines-append : (ts : TablesValue) (xs ys : List TableLine) → fit_lines ts xs ≡ true → fit_lines (after_lines ts xs) ys ≡ true → fit_lines ts (xs ++ ys) ≡ true
fit_lines-append ts [] ys h i = i
fit_lines-append ts (x ∷ xs) ys h i = both (fits_line ts x) (fit_lines (after_line ts x) xs) (fit_lines (after_line ts x) (xs ++ ys)) h (λ rest. fit_lines-append (after_line ts x) xs ys rest i)
  where
    both : (a b c : Bool) → (a && b) ≡ true → (b ≡ true → c ≡ true) → (a && c) ≡ true
    both true b c h step = step h
    both false b c h step = absurd (cc)

-- whether a label has its table
has_table_is : (ts : TablesValue) (label : Text) → has_table ts label ≡ is_some (table_of ts label)
has_table_is ts label = sym (found_any text_order ts label)

-- a table found under its label is in order
pub found_in_order : (ts : TablesValue) (label : Text) (t : TableValue) → AreTables ts → table_of ts label ≡ Some t → IsTable t
found_in_order ts label t h e =
    let place = place_there text_order label_in label ts (has_table_is ts label ∙ ap is_some e) in
    let found : Some (tables_at place.0 ts).1 ≡ Some t = sym (table_found ts label place.0 h place.1) ∙ e in
    let same : (tables_at place.0 ts).1 ≡ t = cc in
    subst IsTable same (table_at_in_order ts place.0 h place.1.within)

-- and tables of which one is changed, and is in order then
pub changed_in_order : (ts : TablesValue) (label : Text) (t : TableValue) (f : TableValue → TableValue) → AreTables ts → table_of ts label ≡ Some t → IsTable (f t) → AreTables (at_table label f ts)
changed_in_order ts label t f h e made =
    let place = place_there text_order label_in label ts (has_table_is ts label ∙ ap is_some e) in
    let found : Some (tables_at place.0 ts).1 ≡ Some t = sym (table_found ts label place.0 h place.1) ∙ e in
    let same : t ≡ (tables_at place.0 ts).1 = cc in
    subst AreTables (sym (table_changed ts label f place.0 h place.1)) (table_changed_in_order ts f place.0 h (subst (λ (u : TableValue). IsTable (f u)) same made))

-- a line of a label's table that names its rows and columns
record RowLine (label : Text) (line : TableLine) : Type 0 where
  after : (ts : TablesValue) → after_line ts line ≡ at_table label (table_after line) ts
  fits : (ts : TablesValue) → fits_line ts line ≡ option_map_or (fits_table line) (table_of ts label) false

module _ (label : Text) where
  each_mapped : {A : Type 0} (f : A → TableLine) → ((x : A) → RowLine label (f x)) → (xs : List A) → AllByRecursion (RowLine label) (map f xs)
  each_mapped f step [] = tt
  each_mapped f step (x ∷ xs) = (step x, each_mapped f step xs)

  each_append : (xs ys : List TableLine) → AllByRecursion (RowLine label) xs → AllByRecursion (RowLine label) ys → AllByRecursion (RowLine label) (xs ++ ys)
  each_append [] ys h i = i
  each_append (x ∷ xs) ys h i = (h.0, each_append xs ys h.1 i)

  each_cell : (old new : TableValue) (key : Row) (columns : Row) → AllByRecursion (RowLine label) (filter_map (cell_line label old new key) columns)
  each_cell old new key [] = tt
  each_cell old new key (c ∷ cs) = split (text_eq (cell_of old key c) (cell_of new key c)) (each_cell old new key cs)
    where
      split : (b : Bool) → AllByRecursion (RowLine label) (filter_map (cell_line label old new key) cs)
          → AllByRecursion (RowLine label) (cons_option (if b then None else Some (Cell label c (cell_of new key c) key)) (filter_map (cell_line label old new key) cs))
      split true rest = rest
      split false rest = (record { after = λ ts. refl; fits = λ ts. refl }, rest)

  each_row : (old new : TableValue) (columns : Row) (keys : List Row) → AllByRecursion (RowLine label) (flat_map (λ key. filter_map (cell_line label old new key) columns) keys)
  each_row old new columns [] = tt
  each_row old new columns (k ∷ ks) = each_append (filter_map (cell_line label old new k) columns) (flat_map (λ key. filter_map (cell_line label old new key) columns) ks) (each_cell old new k columns) (each_row old new columns ks)

  each_changed : (old new : TableValue) → AllByRecursion (RowLine label) (lines_between label old new)
  each_changed old new =
      let A = map (λ key. RowMinus label key) (keys_beyond (row_keys new) (row_keys old)) in
      let B = map (λ column. ColumnMinus label column) (columns_beyond new.columns old.columns) in
      let C = map (λ column. ColumnPlus label column) (columns_beyond old.columns new.columns) in
      let D = map (λ key. RowPlus label key) (keys_beyond (row_keys old) (row_keys new)) in
      each_append (A ++ B ++ C ++ D) (flat_map (λ key. filter_map (cell_line label old new key) new.columns) (row_keys new))
      (each_append (A ++ B ++ C) D
      (each_append (A ++ B) C
      (each_append A B (each_mapped (λ key. RowMinus label key) (λ key. record { after = λ ts. refl; fits = λ ts. refl }) (keys_beyond (row_keys new) (row_keys old)))
      (each_mapped (λ column. ColumnMinus label column) (λ column. record { after = λ ts. refl; fits = λ ts. refl }) (columns_beyond new.columns old.columns)))
      (each_mapped (λ column. ColumnPlus label column) (λ column. record { after = λ ts. refl; fits = λ ts. refl }) (columns_beyond old.columns new.columns)))
      (each_mapped (λ key. RowPlus label key) (λ key. record { after = λ ts. refl; fits = λ ts. refl }) (keys_beyond (row_keys old) (row_keys new))))
      (each_row old new new.columns (row_keys new))

  -- what lines make of the tables: the label's table, and all others as before
  record Made (ts : TablesValue) (n : Option TableValue) (lines : List TableLine) : Type 0 where
    fit : fit_lines ts lines ≡ true
    in_order : AreTables (after_lines ts lines)
    here : table_of (after_lines ts lines) label ≡ n
    others : (q : Text) → text_eq q label ≡ false → table_of (after_lines ts lines) q ≡ table_of ts q

  rows_made : (lines : List TableLine) (ts : TablesValue) (t : TableValue) → AllByRecursion (RowLine label) lines → AreTables ts → table_of ts label ≡ Some t → fit_steps t lines ≡ true → Made ts (Some (steps t lines)) lines
  rows_made [] ts t each h e fit = record { fit = refl; in_order = h; here = e; others = λ q apart. refl }
  rows_made (line ∷ lines) ts t each h e fit = joined (rows_made lines (after_line ts line) (table_after line t) each.1 in_order here (second_of_both (fits_table line t) (fit_steps (table_after line t) lines) fit))
    where
      first : fits_table line t ≡ true
      first = first_of_both (fits_table line t) (fit_steps (table_after line t) lines) fit

      in_order : AreTables (after_line ts line)
      in_order = subst AreTables (sym (each.0.after ts)) (changed_in_order ts label t (table_after line) h e (line_in_order line t (found_in_order ts label t h e) first))

      here : table_of (after_line ts line) label ≡ Some (table_after line t)
      here =
          ap (λ us. table_of us label) (each.0.after ts) ∙ lookup_changed text_order (table_after line) ts label label
          ∙ ap (λ b. cond b (option_map (table_after line) (table_of ts label)) (table_of ts label)) (equal_itself text_order label) ∙ ap (option_map (table_after line)) e

      others : (q : Text) → text_eq q label ≡ false → table_of (after_line ts line) q ≡ table_of ts q
      others q apart =
          ap (λ us. table_of us q) (each.0.after ts) ∙ lookup_changed text_order (table_after line) ts label q
          ∙ ap (λ b. cond b (option_map (table_after line) (table_of ts q)) (table_of ts q)) apart

      fits : fits_line ts line ≡ true
      fits = each.0.fits ts ∙ ap (λ o. option_map_or (fits_table line) o false) e ∙ first

      joined : Made (after_line ts line) (Some (steps (table_after line t) lines)) lines → Made ts (Some (steps t (line ∷ lines))) (line ∷ lines)
      joined rest = record {
        fit = and_both (fits_line ts line) (fit_lines (after_line ts line) lines) fits rest.fit;
        in_order = rest.in_order;
        here = rest.here;
        others = λ q apart. rest.others q apart ∙ others q apart;
      }

  changed_made : (ts : TablesValue) (old new : TableValue) → AreTables ts → IsTable new → table_of ts label ≡ Some old → Made ts (Some new) (lines_between label old new)
  changed_made ts old new h i e =
      let in_order = found_in_order ts label old h e in
      subst (λ (t : TableValue). Made ts (Some t) (lines_between label old new)) (changed_makes label old new in_order i)
      (rows_made (lines_between label old new) ts old (each_changed old new) h e (changed_fits label old new in_order i))

  not_false : (b : Bool) → b ≡ false → not b ≡ true
  not_false true h = absurd (cc)
  not_false false h = refl

  label_made : (ts : TablesValue) (o n : Option TableValue) → AreTables ts → IfSome n IsTable → table_of ts label ≡ o → Made ts n (lines_for label o n)
  label_made ts None None h i e = record { fit = refl; in_order = h; here = e; others = λ q apart. refl }
  label_made ts (Some old) (Some new) h i e = changed_made ts old new h i e
  label_made ts (Some old) None h i e =
      let there = has_table_is ts label ∙ ap is_some e in
      let place = place_there text_order label_in label ts there in
      record {
        fit = and_both (has_table ts label) true there refl;
        in_order = subst AreTables (sym (table_removed ts label place.0 h place.1)) (table_removed_in_order ts place.0 h);
        here = lookup_gone text_order ts label;
        others = λ q apart. lookup_kept text_order ts label q apart;
      }
  label_made ts None (Some new) h i e = joined (changed_made (with_table label ts) empty_table new in_order i here)
    where
      absent : has_table ts label ≡ false
      absent = has_table_is ts label ∙ ap is_some e

      placed : (k : ℕ) × IsPlaceFor text_cmp label_in label ts k
      placed = place_missing text_order label_in label ts h.labels absent

      in_order : AreTables (with_table label ts)
      in_order = subst AreTables (sym (table_placed ts label placed.0 placed.1)) (table_placed_in_order ts label placed.0 h placed.1)

      seen : (q : Text) → table_of (with_table label ts) q ≡ cond (text_eq q label) (Some empty_table) (table_of ts q)
      seen q = ap (λ us. table_of us q) (table_placed ts label placed.0 placed.1) ∙ lookup_inserted text_order ts placed.0 label empty_table q (lacks_for text_order label_in label ts placed.0 placed.1)

      here : table_of (with_table label ts) label ≡ Some empty_table
      here = seen label ∙ ap (λ b. cond b (Some empty_table) (table_of ts label)) (equal_itself text_order label)

      joined : Made (with_table label ts) (Some new) (lines_between label empty_table new) → Made ts (Some new) (TablePlus label ∷ lines_between label empty_table new)
      joined rest = record {
        fit = and_both (not (has_table ts label)) (fit_lines (with_table label ts) (lines_between label empty_table new)) (not_false (has_table ts label) absent) rest.fit;
        in_order = rest.in_order;
        here = rest.here;
        others = λ q apart. rest.others q apart ∙ seen q ∙ ap (λ b. cond b (Some empty_table) (table_of ts q)) apart;
      }

-- label by label
module _ (old new : TablesValue) (i : AreTables new) where
  abbrev lines_of : List Text → List TableLine
  lines_of labels = flat_map (λ label. lines_for label (table_of old label) (table_of new label)) labels

  record AllMade (ts : TablesValue) (labels : List Text) : Type 0 where
    fit : fit_lines ts (lines_of labels) ≡ true
    in_order : AreTables (after_lines ts (lines_of labels))
    here : AllByRecursion (λ q. table_of (after_lines ts (lines_of labels)) q ≡ table_of new q) labels
    others : (q : Text) → is_in q labels ≡ false → table_of (after_lines ts (lines_of labels)) q ≡ table_of ts q

  new_in_order : (label : Text) (n : Option TableValue) → table_of new label ≡ n → IfSome n IsTable
  new_in_order label None e = tt
  new_in_order label (Some t) e = found_in_order new label t i e

  all_made : (labels : List Text) (ts : TablesValue) → IsStrictlySortedBy text_cmp labels → AreTables ts → AllByRecursion (λ q. table_of ts q ≡ table_of old q) labels → AllMade ts labels
  unfolding IsStrictlySortedBy
  all_made [] ts s h same = record { fit = refl; in_order = h; here = tt; others = λ q apart. refl }
  all_made (label ∷ labels) ts s h same =
      joined (λ u in_order behind. all_made labels u s.1 in_order behind) (label_made label ts (table_of old label) (table_of new label) h (new_in_order label (table_of new label) refl) same.0)
    where
      still : (u : TablesValue) (qs : List Text) → ((q : Text) → text_eq q label ≡ false → table_of u q ≡ table_of ts q) → AllByRecursion (λ q. text_cmp label q ≡ Less) qs → AllByRecursion (λ q. table_of ts q ≡ table_of old q) qs
          → AllByRecursion (λ q. table_of u q ≡ table_of old q) qs
      still u [] others behind all = tt
      still u (q ∷ qs) others behind all = (others q (less_differs text_order label q behind.0) ∙ all.0, still u qs others behind.1 all.1)

      joined : ((u : TablesValue) → AreTables u → AllByRecursion (λ q. table_of u q ≡ table_of old q) labels → AllMade u labels) → Made label ts (table_of new label) (lines_for label (table_of old label) (table_of new label)) → AllMade ts (label ∷ labels)
      joined next made = ended (next (after_lines ts (lines_for label (table_of old label) (table_of new label))) made.in_order (still _ labels made.others s.0 same.1))
        where
          ended : AllMade (after_lines ts (lines_for label (table_of old label) (table_of new label))) labels → AllMade ts (label ∷ labels)
          ended rest =
              let joint : after_lines ts (lines_of (label ∷ labels)) ≡ after_lines (after_lines ts (lines_for label (table_of old label) (table_of new label))) (lines_of labels) = after_lines-append ts (lines_for label (table_of old label) (table_of new label)) (lines_of labels) in
              record {
                fit = fit_lines-append ts (lines_for label (table_of old label) (table_of new label)) (lines_of labels) made.fit rest.fit;
                in_order = subst AreTables (sym joint) rest.in_order;
                here =
                    subst (λ (v : TablesValue). AllByRecursion (λ q. table_of v q ≡ table_of new q) (label ∷ labels)) (sym joint)
                    (rest.others label (any_behind text_order label labels s.0) ∙ made.here, rest.here);
                others = λ q apart.
                    let both = neither (text_eq q label) (is_in q labels) apart in
                    ap (λ v. table_of v q) joint ∙ rest.others q both.second ∙ made.others q both.first;
              }

  module _ (h : AreTables old) where
    whole : AllMade old (ascending text_cmp (labels_of old ++ labels_of new))
    whole = all_made (ascending text_cmp (labels_of old ++ labels_of new)) old (ascending_ascends text_order (labels_of old ++ labels_of new)) h (itself (ascending text_cmp (labels_of old ++ labels_of new)))
      where
        itself : (qs : List Text) → AllByRecursion (λ q. table_of old q ≡ table_of old q) qs
        itself [] = tt
        itself (q ∷ qs) = (refl, itself qs)

    -- a label that no table bears
    label_is_there : (ts : TablesValue) (q : Text) → is_some (table_of ts q) ≡ is_in q (labels_of ts)
    label_is_there ts q = found_any text_order ts q ∙ any_label ts
      where
        any_label : (us : TablesValue) → list_any (λ (p : Text × TableValue). text_eq q p.0) us ≡ is_in q (keys_of us)
        any_label [] = refl
        any_label (p ∷ ps) = ap (λ b. text_eq q p.0 || b) (any_label ps)

    no_table : (ts : TablesValue) (q : Text) → is_in q (labels_of ts) ≡ false → table_of ts q ≡ None
    no_table ts q absent = by_case (table_of ts q) refl
      where
        by_case : (o : Option TableValue) → table_of ts q ≡ o → o ≡ None
        by_case None e = refl
        by_case (Some t) e = absurd (false≢true (sym absent ∙ sym (label_is_there ts q) ∙ ap is_some e))

    alike : (q : Text) → table_of (after_lines old (lines_of (ascending text_cmp (labels_of old ++ labels_of new)))) q ≡ table_of new q
    alike q = by_case (is_in q (ascending text_cmp (labels_of old ++ labels_of new))) refl
      where
        by_case : (b : Bool) → is_in q (ascending text_cmp (labels_of old ++ labels_of new)) ≡ b → table_of (after_lines old (lines_of (ascending text_cmp (labels_of old ++ labels_of new)))) q ≡ table_of new q
        by_case true e = found_each text_order (λ r. table_of (after_lines old (lines_of (ascending text_cmp (labels_of old ++ labels_of new)))) r ≡ table_of new r) (ascending text_cmp (labels_of old ++ labels_of new)) q whole.here e
        by_case false e =
            let none = neither (is_in q (labels_of old)) (is_in q (labels_of new)) (sym (list_any-append (text_eq q) (labels_of old) (labels_of new)) ∙ sym (any_ascending text_order q (labels_of old ++ labels_of new)) ∙ e) in
            whole.others q e ∙ no_table old q none.first ∙ sym (no_table new q none.second)

    pub script_makes : after_lines old (script old new) ≡ new
    unfolding script
    script_makes = same_pairs text_order (after_lines old (lines_of (ascending text_cmp (labels_of old ++ labels_of new)))) new whole.in_order.labels i.labels alike

    pub script_fits : fit_lines old (script old new) ≡ true
    unfolding script
    script_fits = whole.fit

-- a line leaves the tables of all other labels
module _ (q : Text) where
  new_table_passed : (ts : TablesValue) (label : Text) → text_eq q label ≡ false → table_of (with_table label ts) q ≡ table_of ts q
  new_table_passed [] label apart = rw apart refl
  new_table_passed (p ∷ ps) label apart =
      elim (text_cmp label p.0) as (λ o. table_of (by_order o ((label, empty_table) ∷ p ∷ ps) (p ∷ ps) (p ∷ with_table label ps)) q ≡ table_of (p ∷ ps) q)
      [ Less ↦ rw apart refl | Equal ↦ refl | Greater ↦ ap (cond (text_eq q p.0) (Some p.1)) (new_table_passed ps label apart) ]

  others_passed : (ts : TablesValue) (line : TableLine) → text_eq q (label_of line) ≡ false → table_of (at_table (label_of line) (table_after line) ts) q ≡ table_of ts q
  others_passed ts line apart = lookup_changed text_order (table_after line) ts (label_of line) q ∙ ap (λ b. cond b (option_map (table_after line) (table_of ts q)) (table_of ts q)) apart

  line_passed : (ts : TablesValue) (line : TableLine) → text_eq q (label_of line) ≡ false → table_of (after_line ts line) q ≡ table_of ts q
  line_passed ts (TableMinus label) apart = lookup_kept text_order ts label q apart
  line_passed ts (TablePlus label) apart = new_table_passed ts label apart
  line_passed ts (RowMinus label key) apart = others_passed ts (RowMinus label key) apart
  line_passed ts (ColumnMinus label column) apart = others_passed ts (ColumnMinus label column) apart
  line_passed ts (ColumnPlus label column) apart = others_passed ts (ColumnPlus label column) apart
  line_passed ts (RowPlus label key) apart = others_passed ts (RowPlus label key) apart
  line_passed ts (Cell label column value key) apart = others_passed ts (Cell label column value key) apart

  pub lines_passed : (ts : TablesValue) (lines : List TableLine) → is_in q (map label_of lines) ≡ false → table_of (after_lines ts lines) q ≡ table_of ts q
  lines_passed ts [] apart = refl
  lines_passed ts (line ∷ lines) apart =
      let both = neither (text_eq q (label_of line)) (is_in q (map label_of lines)) apart in
      lines_passed (after_line ts line) lines both.second ∙ line_passed ts line both.first

  -- a label that no line of the script names
  pub unnamed_table_stays : (old new : TablesValue) → AreTables old → AreTables new → is_in q (map label_of (script old new)) ≡ false → table_of old q ≡ table_of new q
  unnamed_table_stays old new h i apart = sym (lines_passed old (script old new) apart) ∙ ap (λ ts. table_of ts q) (script_makes old new i h)
