-- The limits that tables pass, and the refusals of the changes of a line.
use Rattle.std.proofs.Common.{◌≡◌, ◌+◌, ◌∙◌, ◌<◌, ◌≤◌, ℕ, zero, suc, Bool, true, false, cond, ◌||◌, List, [], ◌∷◌, Option, Some, None, length, map, take, refl, sym, ap, subst, arith}
use Rattle.std.specs.Prelude.{nat_lt, nat_le, insert, remove, slice_index_or, is_some, option_map, sum_by, replicate}
use Rattle.std.specs.List.{list_any, AllByRecursion}
use Rattle.std.specs.Option.{option_or, option_map_or}
use Rattle.std.proofs.lemmas.Bool.{lt-ltb, le-ltb, lt-leb, leb-true, leb-false, ltb-true, ltb-false, eq-eqb, ne_eqb}
use Rattle.std.proofs.lemmas.List.{length-map}
use Rattle.std.proofs.lemmas.List.Sums.{sum_by-cons}
use Rattle.ss_text.specs.Texts.{Text, Row, text_eq, row_eq, is_in}
use Rattle.ss_text.specs.Label.{is_table_label}
use Rattle.ss_text.specs.Places.{at_place}
use Rattle.ss_text.proofs.KeyLemmas.{text_order, place_there, place_missing}
use Rattle.ss_text.proofs.PairLemmas.{found_any, lookup_changed, turned}
use Rattle.flow_law.specs.declared.shape.Shape.{Shape}
use Rattle.flow_law.specs.Tables.{TableValue, TablesValue, empty_table, table_of, tables_at, label_in, row_keys}
use Rattle.flow_law.specs.InOrder.{AreTables}
use Rattle.flow_law.specs.Lines.{label_of, without_cell, with_empty_cell, with_cell_at, without_row, with_row, without_column, with_column, with_cell, column_place, at_table, without_table, with_table, after_line, has_row, has_column, has_table, fits_table, fits_label, fits_line}
use Rattle.flow_law.specs.declared.line.TableLine.{TableLine}
use Rattle.flow_law.specs.declared.line.TableLine.TheVariants.{TableMinus, TablePlus, RowMinus, ColumnMinus, ColumnPlus, RowPlus, Cell}
use Rattle.change_script.specs.Fits.{TablesFit}
use Rattle.flow_law.proofs.LabelLemmas.{table_found, table_removed, table_placed, table_changed}
use Rattle.schema_model.specs.Catalogue.{RelationValue, CatalogueValue, database_value, attributes_of, rows_in, row_count}
use Rattle.schema_model.specs.Changes.{after}
use Rattle.schema_model.specs.Limits.{most_relations, most_attributes, most_rows}
use Rattle.schema_model.specs.Sound.{IsRelation, IsSound}
use Rattle.schema_model.specs.Refusals.{fault, group_fault, full, too_many, first_repeated, where_true}
use Rattle.schema_model.specs.declared.change.Change.{Change}
use Rattle.schema_model.specs.declared.change.Change.TheVariants.{Insert, Delete, AddAttribute, DropAttribute, CreateRelation, DropRelation}
use Rattle.schema_model.specs.declared.refusal.Refusal.{Refusal}
use Rattle.schema_model.specs.declared.refusal.Refusal.TheVariants.{Limit}
use Rattle.schema_model.specs.declared.refusal.Which.{Which}
use Rattle.schema_model.specs.declared.refusal.Which.TheVariants.{Relations, Attributes, Rows}
use Rattle.schema_model.proofs.Repeated.{found_none}
use Rattle.operator_law.specs.Bags.{weigh}
use Rattle.view_meaning.proofs.OrderLemmas.{same_bytes}
use Rattle.view_stack.specs.Limits.{past, is_wide, first_limit}
use Rattle.view_stack.specs.Records.{text_of, record_of, front_cells, text_after, record_after}
use Rattle.view_stack.specs.Lifted.{lifted_line, goes_on, table_at}
use Rattle.view_stack.specs.Stands.{header, relation_for, database_for}
use Rattle.flow_law.specs.Records.{spliced}
use Rattle.view_stack.proofs.SaysLemmas.{weigh_mapped, weigh_inserted, weigh_removed, keys_weighed, one_key_more, one_key_less, mark, Distinct, Says, in_upper, record_there, and_first, not_true, or_false_left, or_false_right}
use Rattle.view_stack.proofs.MovedLemmas.{AreSaid, whole, relation_at}
use Rattle.view_stack.proofs.LinesLemmas.{IsSaid, IsDynamic, Found, found_table, said_found, said_missing, same_record, same_after, row_gone}
use Rattle.view_stack.proofs.StandsLemmas.{splice_long, header_long}

-- ---- numbers
some_or_none : (b : Bool) (n : ℕ) → (b ≡ true → n ≡ 1) → (b ≡ false → n ≡ 0) → nat_lt 0 n ≡ b
some_or_none true n if_true if_false = lt-ltb 0 n (let single = if_true refl in omega (arith, single))
some_or_none false n if_true if_false = le-ltb 0 n (let zero_then = if_false refl in omega (arith, zero_then))

any_marked : (b : Bool) → nat_lt 0 (mark b) ≡ b
any_marked b = some_or_none b (mark b) (ap mark) (ap mark)

-- one more passes a limit where it is reached
one_past : (most n : ℕ) → nat_lt most (suc n) ≡ nat_le most n
one_past most n = by_test (nat_le most n) refl
  where
    by_test : (b : Bool) → nat_le most n ≡ b → nat_lt most (suc n) ≡ b
    by_test true e = lt-ltb most (suc n) (let reached = leb-true most n e in omega (arith, reached))
    by_test false e = le-ltb most (suc n) (let below = leb-false most n e in omega (arith, below))

past_full : (most n : ℕ) (which : Which) → option_map Limit (past most (suc n) which) ≡ full most n which
past_full most n which = ap (λ (b : Bool). option_map Limit (cond b (Some which) None)) (one_past most n) ∙ by_test (nat_le most n)
  where
    by_test : (b : Bool) → option_map Limit (cond b (Some which) None) ≡ where_true b (Limit which)
    by_test true = refl
    by_test false = refl

not_full : (most n : ℕ) (which : Which) → n < most → full most n which ≡ None
not_full most n which h = rw (lt-leb most n h) refl

or_none : {A : Type 0} (o : Option A) → option_or o None ≡ o
or_none None = refl
or_none (Some a) = refl

mark_less : (m n : ℕ) → m ≤ n → mark (nat_lt most_attributes m) ≤ mark (nat_lt most_attributes n)
mark_less m n h = by_test (nat_lt most_attributes m) refl
  where
    by_test : (b : Bool) → nat_lt most_attributes m ≡ b → mark (nat_lt most_attributes m) ≤ mark (nat_lt most_attributes n)
    by_test true e = let wide = ltb-true most_attributes m e in rw (e, lt-ltb most_attributes n (omega (arith, wide, h))) (omega arith)
    by_test false e = rw e (omega arith)

ones : {X : Type 0} (xs : List X) → weigh (λ x. 1) xs ≡ length xs
ones [] = refl
ones (x ∷ xs) = let rest = ones xs in omega (arith, rest)

remove_short : {X : Type 0} (xs : List X) (p : ℕ) → length (remove xs p) ≤ length xs
remove_short [] zero = omega arith
remove_short [] (suc p) = omega arith
remove_short (x ∷ xs) zero = omega arith
remove_short (x ∷ xs) (suc p) = let rest = remove_short xs p in omega (arith, rest)

insert_long : {X : Type 0} (xs : List X) (p : ℕ) (x : X) → length (insert xs p x) ≡ suc (length xs)
insert_long xs p x =
    let a = ones (insert xs p x) in
    let b = weigh_inserted (λ y. 1) xs p x in
    let c = ones xs in
    omega (arith, a, b, c)

-- ---- names that are distinct
unseen : (ns : Row) (k : ℕ) → Distinct ns → k < length ns → is_in (slice_index_or ns k []) (take k ns) ≡ false
unseen [] k d lt = absurd (omega (arith, lt))
unseen (n ∷ ns) zero d lt = refl
unseen (n ∷ ns) (suc k) d lt = rw (turned text_order (slice_index_or ns k []) n ∙ other ns k d.0 (omega (arith, lt))) (unseen ns k d.1 (omega (arith, lt)))
  where
    other : (xs : Row) (i : ℕ) → is_in n xs ≡ false → i < length xs → text_eq n (slice_index_or xs i []) ≡ false
    other [] i h l = absurd (omega (arith, l))
    other (x ∷ xs) zero h l = or_false_left (text_eq n x) (is_in n xs) h
    other (x ∷ xs) (suc i) h l = other xs i (or_false_right (text_eq n x) (is_in n xs) h) (omega (arith, l))

none_twice : (ns : Row) → Distinct ns → first_repeated ns ≡ None
none_twice ns d = found_none (λ i. is_in (slice_index_or ns i []) (take i ns)) (length ns) 0 (λ k from to. unseen ns k d (omega (arith, to)))

-- ---- sums over tables
abbrev all_of : (TableValue → ℕ) → TablesValue → ℕ
all_of g ts = weigh (λ (p : Text × TableValue). g p.1) ts

abbrev one : TableValue → ℕ
one t = 1

abbrev row_number : TableValue → ℕ
row_number t = length t.rows

weigh_at_place : {X : Type 0} (h : X → ℕ) (f : X → X) (xs : List X) (i : ℕ) (d : X) → i < length xs → weigh h (at_place i f xs) + h (slice_index_or xs i d) ≡ weigh h xs + h (f (slice_index_or xs i d))
weigh_at_place h f [] i d l = absurd (omega (arith, l))
weigh_at_place h f (x ∷ xs) zero d l = omega arith
weigh_at_place h f (x ∷ xs) (suc i) d l = let rest = weigh_at_place h f xs i d (omega (arith, l)) in omega (arith, rest)

module _ (ts : TablesValue) (order : AreTables ts) (label : Text) where
  one_table_less : (g : TableValue → ℕ) → has_table ts label ≡ true → all_of g (without_table label ts) ≤ all_of g ts
  one_table_less g there =
      let place = place_there text_order label_in label ts there in
      let a = weigh_removed (λ (p : Text × TableValue). g p.1) ts place.0 ([], empty_table) place.1.within in
      let b : all_of g (without_table label ts) ≡ all_of g (remove ts place.0) = ap (all_of g) (table_removed ts label place.0 order place.1) in
      omega (arith, a, b)

  one_table_more : (g : TableValue → ℕ) → has_table ts label ≡ false → all_of g (with_table label ts) ≡ g empty_table + all_of g ts
  one_table_more g absent =
      let place = place_missing text_order label_in label ts order.labels absent in
      ap (all_of g) (table_placed ts label place.0 place.1) ∙ weigh_inserted (λ (p : Text × TableValue). g p.1) ts place.0 (label, empty_table)

  module _ (t : TableValue) (e : table_of ts label ≡ Some t) where
    one_of_all : (g : TableValue → ℕ) → g t ≤ all_of g ts
    one_of_all g =
        let place = place_there text_order label_in label ts (sym (found_any text_order ts label) ∙ ap is_some e) in
        let found : Some (tables_at place.0 ts).1 ≡ Some t = sym (table_found ts label place.0 order place.1) ∙ e in
        let same : (tables_at place.0 ts).1 ≡ t = cc in
        let a = weigh_removed (λ (p : Text × TableValue). g p.1) ts place.0 ([], empty_table) place.1.within in
        let b : g (tables_at place.0 ts).1 ≡ g t = ap g same in
        omega (arith, a, b)

    one_table_other : (g : TableValue → ℕ) (f : TableValue → TableValue) → all_of g (at_table label f ts) + g t ≡ all_of g ts + g (f t)
    one_table_other g f =
        let place = place_there text_order label_in label ts (sym (found_any text_order ts label) ∙ ap is_some e) in
        let found : Some (tables_at place.0 ts).1 ≡ Some t = sym (table_found ts label place.0 order place.1) ∙ e in
        let same : (tables_at place.0 ts).1 ≡ t = cc in
        let a = weigh_at_place (λ (p : Text × TableValue). g p.1) (λ (p : Text × TableValue). (p.0, f p.1)) ts place.0 ([], empty_table) place.1.within in
        let b : all_of g (at_table label f ts) ≡ all_of g (at_place place.0 (λ (p : Text × TableValue). (p.0, f p.1)) ts) = ap (all_of g) (table_changed ts label f place.0 order place.1) in
        let c : g (tables_at place.0 ts).1 ≡ g t = ap g same in
        let d : g (f (tables_at place.0 ts).1) ≡ g (f t) = ap (λ (u : TableValue). g (f u)) same in
        omega (arith, a, b, c, d)

-- ---- the first limit by three numbers: of relations, of wide ones, and of rows
abbrev limit_by : ℕ → ℕ → ℕ → Option Which
limit_by relations wide rows = option_or (past most_relations relations Relations) (option_or (cond (nat_lt 0 wide) (Some Attributes) None) (past most_rows rows Rows))

pub record IsWithin (relations wide rows : ℕ) : Type 0 where
  pub few : relations ≤ most_relations
  pub narrow : wide ≡ 0
  pub room : rows ≤ most_rows

within_limits : (n w r : ℕ) → limit_by n w r ≡ None → IsWithin n w r
within_limits n w r h = by_tests (nat_lt most_relations n) (nat_lt 0 w) (nat_lt most_rows r) refl refl refl
  where
    by_tests : (a b c : Bool) → nat_lt most_relations n ≡ a → nat_lt 0 w ≡ b → nat_lt most_rows r ≡ c → IsWithin n w r
    by_tests true b c e f g = let bad : Some Relations ≡ None = sym (ap (λ (x : Bool). option_or (cond x (Some Relations) None) (option_or (cond (nat_lt 0 w) (Some Attributes) None) (past most_rows r Rows))) e) ∙ h in absurd (cc)
    by_tests false true c e f g =
        let bad : Some Attributes ≡ None = sym (λ i. option_or (cond (e i) (Some Relations) None) (option_or (cond (f i) (Some Attributes) None) (past most_rows r Rows))) ∙ h in absurd (cc)
    by_tests false false true e f g =
        let bad : Some Rows ≡ None = sym (λ i. option_or (cond (e i) (Some Relations) None) (option_or (cond (f i) (Some Attributes) None) (cond (g i) (Some Rows) None))) ∙ h in absurd (cc)
    by_tests false false false e f g =
        let narrow = ltb-false 0 w f in
        record { few = ltb-false most_relations n e; narrow = omega (arith, narrow); room = ltb-false most_rows r g }

no_limit : (n w r : ℕ) → IsWithin n w r → limit_by n w r ≡ None
no_limit n w r h = λ i. option_or (cond (few i) (Some Relations) None) (option_or (cond (narrow i) (Some Attributes) None) (cond (room i) (Some Rows) None))
  where
    few : nat_lt most_relations n ≡ false
    few = le-ltb most_relations n h.few

    narrow : nat_lt 0 w ≡ false
    narrow = ap (nat_lt 0) h.narrow

    room : nat_lt most_rows r ≡ false
    room = le-ltb most_rows r h.room

rows_limit : (n w r : ℕ) → n ≤ most_relations → w ≡ 0 → limit_by n w r ≡ past most_rows r Rows
rows_limit n w r few narrow = λ i. option_or (cond (le-ltb most_relations n few i) (Some Relations) None) (option_or (cond (nat_lt 0 (narrow i)) (Some Attributes) None) (past most_rows r Rows))

wide_limit : (n w r : ℕ) → n ≤ most_relations → r ≤ most_rows → limit_by n w r ≡ cond (nat_lt 0 w) (Some Attributes) None
wide_limit n w r few room =
    (λ i. option_or (cond (le-ltb most_relations n few i) (Some Relations) None) (option_or (cond (nat_lt 0 w) (Some Attributes) None) (cond (le-ltb most_rows r room i) (Some Rows) None)))
    ∙ or_none (cond (nat_lt 0 w) (Some Attributes) None)

relations_limit : (n w r : ℕ) → r ≤ most_rows → limit_by n w r ≡ option_or (past most_relations n Relations) (cond (nat_lt 0 w) (Some Attributes) None)
relations_limit n w r room =
    (λ i. option_or (past most_relations n Relations) (option_or (cond (nat_lt 0 w) (Some Attributes) None) (cond (le-ltb most_rows r room i) (Some Rows) None)))
    ∙ ap (option_or (past most_relations n Relations)) (or_none (cond (nat_lt 0 w) (Some Attributes) None))

module _ (shape : Shape) (db : Text) where
  abbrev wide : TableValue → ℕ
  wide t = mark (nat_lt most_attributes (length (header shape t)))

  relations_long : (ts : TablesValue) → length (map (relation_for shape) ts) ≡ all_of one ts
  relations_long [] = refl
  relations_long (p ∷ ps) = let rest = relations_long ps in omega (arith, rest)

  some_wide : (ts : TablesValue) → list_any is_wide (map (relation_for shape) ts) ≡ nat_lt 0 (all_of wide ts)
  some_wide [] = sym (le-ltb 0 0 (omega arith))
  some_wide (p ∷ ps) = by_test (nat_lt most_attributes (length (header shape p.1))) refl (some_wide ps)
    where
      by_test : (b : Bool) → nat_lt most_attributes (length (header shape p.1)) ≡ b → list_any is_wide (map (relation_for shape) ps) ≡ nat_lt 0 (all_of wide ps) → list_any is_wide (map (relation_for shape) (p ∷ ps)) ≡ nat_lt 0 (all_of wide (p ∷ ps))
      by_test true e rest = rw e (sym (lt-ltb 0 (1 + all_of wide ps) (omega arith)))
      by_test false e rest = rw e (rest ∙ ap (nat_lt 0) (none_before (all_of wide ps)))
        where
          none_before : (n : ℕ) → n ≡ 0 + n
          none_before n = omega arith

  rows_there : (ts : TablesValue) → rows_in (database_for db shape ts) ≡ all_of row_number ts
  rows_there [] = refl
  rows_there (p ∷ ps) =
      sum_by-cons (λ (r : RelationValue). length r.rows) (relation_for shape p) (map (relation_for shape) ps)
      ∙ (λ i. length-map p.1.rows (λ (r : Row × Row). spliced shape.spot r.0 r.1) i + rows_there ps i)

  limit_is : (ts : TablesValue) → first_limit (database_for db shape ts) ≡ limit_by (all_of one ts) (all_of wide ts) (all_of row_number ts)
  limit_is ts = λ i. option_or (past most_relations (relations_long ts i) Relations) (option_or (cond (some_wide ts i) (Some Attributes) None) (past most_rows (rows_there ts i) Rows))

  abbrev CountsWithin : TablesValue → Type 0
  CountsWithin ts = IsWithin (all_of one ts) (all_of wide ts) (all_of row_number ts)

  pub counts_within : (ts : TablesValue) → first_limit (database_for db shape ts) ≡ None → CountsWithin ts
  counts_within ts h = within_limits (all_of one ts) (all_of wide ts) (all_of row_number ts) (sym (limit_is ts) ∙ h)

  pub none_passed : (ts : TablesValue) → CountsWithin ts → first_limit (database_for db shape ts) ≡ None
  none_passed ts h = limit_is ts ∙ no_limit (all_of one ts) (all_of wide ts) (all_of row_number ts) h

  -- ---- after a line
  module _ (ts : TablesValue) (order : AreTables ts) (h : CountsWithin ts) where
    still_within : (us : TablesValue) → all_of one us ≤ all_of one ts → all_of wide us ≤ all_of wide ts → all_of row_number us ≤ all_of row_number ts → first_limit (database_for db shape us) ≡ None
    still_within us n w r =
        let few = h.few in
        let narrow = h.narrow in
        let room = h.room in
        none_passed us (record { few = omega (arith, n, few); narrow = omega (arith, w, narrow); room = omega (arith, r, room) })

    table_gone : (label : Text) → has_table ts label ≡ true → first_limit (database_for db shape (without_table label ts)) ≡ None
    table_gone label there = still_within (without_table label ts) (one_table_less ts order label one there) (one_table_less ts order label wide there) (one_table_less ts order label row_number there)

    no_greater : (label : Text) (t : TableValue) (f : TableValue → TableValue) → table_of ts label ≡ Some t → length (header shape (f t)) ≤ length (header shape t) → length (f t).rows ≤ length t.rows → first_limit (database_for db shape (at_table label f ts)) ≡ None
    no_greater label t f e width height =
        let n = one_table_other ts order label t e one f in
        let w = one_table_other ts order label t e wide f in
        let r = one_table_other ts order label t e row_number f in
        let less = mark_less (length (header shape (f t))) (length (header shape t)) width in
        still_within (at_table label f ts) (omega (arith, n)) (omega (arith, w, less)) (omega (arith, r, height))

    table_came : (label : Text) → has_table ts label ≡ false
        → first_limit (database_for db shape (with_table label ts)) ≡ option_or (past most_relations (suc (all_of one ts)) Relations) (cond (nat_lt most_attributes (length (header shape empty_table))) (Some Attributes) None)
    table_came label absent =
        let us = with_table label ts in
        let n = one_table_more ts order label one absent in
        let w = one_table_more ts order label wide absent in
        let r = one_table_more ts order label row_number absent in
        let narrow = h.narrow in
        let room = h.room in
        let more : all_of one us ≡ suc (all_of one ts) = omega (arith, n) in
        let width : all_of wide us ≡ wide empty_table = omega (arith, w, narrow) in
        limit_is us ∙ relations_limit (all_of one us) (all_of wide us) (all_of row_number us) (omega (arith, r, room))
        ∙ (λ i. option_or (past most_relations (more i) Relations) (cond ((ap (nat_lt 0) width ∙ any_marked (nat_lt most_attributes (length (header shape empty_table)))) i) (Some Attributes) None))

    column_came : (label : Text) (t : TableValue) (f : TableValue → TableValue) → table_of ts label ≡ Some t → length (header shape (f t)) ≡ suc (length (header shape t)) → length (f t).rows ≡ length t.rows
        → first_limit (database_for db shape (at_table label f ts)) ≡ past most_attributes (suc (length (header shape t))) Attributes
    column_came label t f e width height =
        let us = at_table label f ts in
        let n = one_table_other ts order label t e one f in
        let w = one_table_other ts order label t e wide f in
        let r = one_table_other ts order label t e row_number f in
        let own = one_of_all ts order label t e wide in
        let few = h.few in
        let narrow = h.narrow in
        let room = h.room in
        let new : all_of wide us ≡ wide (f t) = omega (arith, w, own, narrow) in
        limit_is us ∙ wide_limit (all_of one us) (all_of wide us) (all_of row_number us) (omega (arith, n, few)) (omega (arith, r, height, room))
        ∙ ap (λ (b : Bool). cond b (Some Attributes) None) (ap (nat_lt 0) new ∙ any_marked (nat_lt most_attributes (length (header shape (f t)))) ∙ ap (nat_lt most_attributes) width)

    row_came : (label : Text) (t : TableValue) (f : TableValue → TableValue) → table_of ts label ≡ Some t → length (header shape (f t)) ≤ length (header shape t) → length (f t).rows ≡ suc (length t.rows)
        → first_limit (database_for db shape (at_table label f ts)) ≡ past most_rows (suc (all_of row_number ts)) Rows
    row_came label t f e width height =
        let us = at_table label f ts in
        let n = one_table_other ts order label t e one f in
        let w = one_table_other ts order label t e wide f in
        let r = one_table_other ts order label t e row_number f in
        let less = mark_less (length (header shape (f t))) (length (header shape t)) width in
        let few = h.few in
        let narrow = h.narrow in
        let more : all_of row_number us ≡ suc (all_of row_number ts) = omega (arith, r, height) in
        limit_is us ∙ rows_limit (all_of one us) (all_of wide us) (all_of row_number us) (omega (arith, n, few)) (omega (arith, w, less, narrow))
        ∙ ap (λ (m : ℕ). past most_rows m Rows) more

    cell_within : (label column value : Text) (key : Row) → fits_label ts (Cell label column value key) ≡ true → first_limit (database_for db shape (at_table label (with_cell key column value) ts)) ≡ None
    cell_within label column value key fits =
        let f = found_table ts (Cell label column value key) fits in
        let same = length-map f.table.rows (λ (r : Row × Row). cond (row_eq key r.0) (with_cell_at (column_place column f.table.columns) value r) r) in
        no_greater label f.table (with_cell key column value) f.found (omega arith) (omega (arith, same))

-- ---- how many there are in a relation and a database that say what tables say
keys_long : (t : TableValue) → weigh (λ (k : Row). 1) (row_keys t) ≡ length t.rows
keys_long t = keys_weighed (λ k. 1) t.rows ∙ ones t.rows

says_long : (constants : Row) (r : RelationValue) (t : TableValue) → Says constants r t → length r.rows ≡ length t.rows
says_long constants r t says = sym (ones r.rows) ∙ sym (weigh_mapped (λ row. []) (λ (row : Row). 1) r.rows) ∙ says.rows [] (λ row. 1) ∙ keys_long t

says_wide : (constants : Row) (r : RelationValue) (t : TableValue) → Says constants r t → length r.attributes ≡ length constants + length t.columns
says_wide constants r t says =
    let a = says.attributes (λ x. 1) in
    let b = ones r.attributes in
    let c = ones constants in
    let d = ones t.columns in
    omega (arith, a, b, c, d)

said_many : (constants : Row) (rs : List RelationValue) (ts : TablesValue) → AreSaid constants rs ts → length rs ≡ all_of one ts
said_many constants [] [] h = refl
said_many constants [] (p ∷ ps) h = absurd h
said_many constants (r ∷ rs) [] h = absurd h
said_many constants (r ∷ rs) (p ∷ ps) h = let rest = said_many constants rs ps h.2 in omega (arith, rest)

said_rows : (constants : Row) (rs : List RelationValue) (ts : TablesValue) → AreSaid constants rs ts → sum_by (λ (r : RelationValue). length r.rows) rs ≡ all_of row_number ts
said_rows constants [] [] h = refl
said_rows constants [] (p ∷ ps) h = absurd h
said_rows constants (r ∷ rs) [] h = absurd h
said_rows constants (r ∷ rs) (p ∷ ps) h = sum_by-cons (λ (x : RelationValue). length x.rows) r rs ∙ (λ i. says_long constants r p.1 h.1 i + said_rows constants rs ps h.2 i)

all_rows : (constants : Row) (db : Text) (rs : List RelationValue) (ts : TablesValue) → AreSaid constants rs ts → row_count (whole db rs) ≡ all_of row_number ts
all_rows constants db rs ts h =
    let a = sum_by-cons rows_in (database_value db rs) [] in
    let b = said_rows constants rs ts h in
    omega (arith, a, b)

-- tables that a sound catalogue says pass no limit
pub sound_within : (shape : Shape) (db : Text) (rs : List RelationValue) (ts : TablesValue) → IsSound (whole db rs) → AreSaid shape.constants rs ts → TablesFit shape ts → first_limit (database_for db shape ts) ≡ None
sound_within shape db rs ts sound said fit = none_passed shape db ts (record {
  few = let many = said_many shape.constants rs ts said in let few = sound.databases.0.few in omega (arith, many, few);
  narrow = all_narrow rs ts said fit sound.databases.0.relations;
  room = let rows = all_rows shape.constants db rs ts said in let room = sound.rows in omega (arith, rows, room);
})
  where
    all_narrow : (ss : List RelationValue) (us : TablesValue) → AreSaid shape.constants ss us → TablesFit shape us → AllByRecursion IsRelation ss → all_of (wide shape db) us ≡ 0
    all_narrow [] [] h f i = refl
    all_narrow [] (p ∷ ps) h f i = absurd h
    all_narrow (r ∷ ss) [] h f i = absurd h
    all_narrow (r ∷ ss) (p ∷ ps) h f i =
        let own = says_wide shape.constants r p.1 h.1 in
        let long = header_long shape p.0 p.1 f.0 in
        let few = i.0.header.few in
        let narrow : wide shape db p.1 ≡ 0 = ap mark (le-ltb most_attributes (length (header shape p.1)) (omega (arith, own, long, few))) in
        let rest = all_narrow ss ps h.2 f.1 i.1 in
        omega (arith, narrow, rest)

-- ---- the refusal of each change
module _ (db : Text) (rs : List RelationValue) (label : Text) where
  dropped_judged : (r : RelationValue) → relation_at label rs ≡ Some r → fault (whole db rs) (DropRelation db label) ≡ None
  dropped_judged r e = rw (same_bytes db, e) refl

  created_judged : (names : Row) → relation_at label rs ≡ None → is_table_label label ≡ true → Distinct names
      → fault (whole db rs) (CreateRelation db label names) ≡ option_or (full most_relations (length rs) Relations) (too_many most_attributes (length names) Attributes)
  created_judged names e legal distinct = rw (same_bytes db, e, legal, none_twice names distinct, or_none (too_many most_attributes (length names) Attributes)) refl

  insert_judged : (row : Row) (r : RelationValue) → relation_at label rs ≡ Some r → length row ≡ length r.attributes → fault (whole db rs) (Insert db label row) ≡ full most_rows (row_count (whole db rs)) Rows
  insert_judged row r e l = rw (same_bytes db, e, eq-eqb (length row) (length r.attributes) l) (or_none (full most_rows (row_count (whole db rs)) Rows))

  delete_judged : (row : Row) (r : RelationValue) → relation_at label rs ≡ Some r → length row ≡ length r.attributes → list_any (row_eq row) r.rows ≡ true → fault (whole db rs) (Delete db label row) ≡ None
  delete_judged row r e l there = rw (same_bytes db, e, eq-eqb (length row) (length r.attributes) l, there) refl

  add_judged : (name : Text) (r : RelationValue) → relation_at label rs ≡ Some r → is_in name r.attributes ≡ false → fault (whole db rs) (AddAttribute db label name []) ≡ full most_attributes (length r.attributes) Attributes
  add_judged name r e absent = rw (same_bytes db, e, absent) (or_none (full most_attributes (length r.attributes) Attributes))

  drop_judged : (name : Text) (r : RelationValue) → relation_at label rs ≡ Some r → is_in name r.attributes ≡ true → 2 ≤ length r.attributes → fault (whole db rs) (DropAttribute db label name) ≡ None
  drop_judged name r e there more = rw (same_bytes db, e, there, ne_eqb (length r.attributes) 1 (λ one_left. absurd (omega (arith, one_left, more)))) refl

-- ---- the changes of a line
-- what a line adds is legal: a table's label, and a column only where there is a variable column
abbrev pub IsLegal : Shape → TableLine → Type 0
IsLegal shape (TablePlus label) = is_table_label label ≡ true
IsLegal shape (ColumnPlus label column) = is_some shape.spot ≡ true
IsLegal shape line = Unit {0}

module _ (shape : Shape) (db : Text) (distinct : Distinct shape.constants) (some : 1 ≤ length shape.constants) (rs : List RelationValue) (ts : TablesValue) (order : AreTables ts) (said : AreSaid shape.constants rs ts)
    (within : first_limit (database_for db shape ts) ≡ None) where
  abbrev constants : Row
  constants = shape.constants

  counts : CountsWithin shape db ts
  counts = counts_within shape db ts within

  abbrev Judged : List Change → TablesValue → Type 0
  Judged changes us = group_fault (whole db rs) changes ≡ option_map Limit (first_limit (database_for db shape us))

  not_judged : (g : Change) (us : TablesValue) → fault (whole db rs) g ≡ None → first_limit (database_for db shape us) ≡ None → Judged (g ∷ []) us
  not_judged g us e f = ap (λ (o : Option Refusal). option_or o None) e ∙ sym (ap (option_map Limit) f)

  one_judged : (g : Change) (us : TablesValue) (o : Option Which) → fault (whole db rs) g ≡ option_map Limit o → first_limit (database_for db shape us) ≡ o → Judged (g ∷ []) us
  one_judged g us o e f = or_none (fault (whole db rs) g) ∙ e ∙ sym (ap (option_map Limit) f)

  both_wide : (n : Option ℕ) (t u : TableValue) → length u.columns ≤ length t.columns → length (spliced n constants u.columns) ≤ length (spliced n constants t.columns)
  both_wide None t u h = omega arith
  both_wide (Some n) t u h =
      let a = splice_long (Some n) constants t.columns (λ e. absurd (cc)) in
      let b = splice_long (Some n) constants u.columns (λ e. absurd (cc)) in
      omega (arith, a, b, h)

  header_wide : (n : Option ℕ) (t : TableValue) → is_some n ≡ true → length (spliced n constants t.columns) ≡ length constants + length t.columns
  header_wide None t h = absurd (cc)
  header_wide (Some n) t h = splice_long (Some n) constants t.columns (λ e. absurd (cc))

  record_long : (r : RelationValue) (f : Text → Text) (row : Row) → map f r.attributes ≡ row → length row ≡ length r.attributes
  record_long r f row same = sym (ap length same) ∙ length-map r.attributes f

  table_minus_judged : (label : Text) → has_table ts label ≡ true → Judged (DropRelation db label ∷ []) (without_table label ts)
  table_minus_judged label there = by_found (table_of ts label) refl
    where
      by_found : (o : Option TableValue) → table_of ts label ≡ o → Judged (DropRelation db label ∷ []) (without_table label ts)
      by_found None e = let bad : false ≡ true = sym (ap is_some e) ∙ found_any text_order ts label ∙ there in absurd (cc)
      by_found (Some t) e =
          let found = said_found constants label rs ts t said e in
          not_judged (DropRelation db label) (without_table label ts) (dropped_judged db rs label found.0 found.1) (table_gone shape db ts order counts label there)

  table_plus_judged : (label : Text) → has_table ts label ≡ false → is_table_label label ≡ true → Judged (CreateRelation db label constants ∷ []) (with_table label ts)
  table_plus_judged label absent legal =
      one_judged (CreateRelation db label constants) (with_table label ts) (option_or (past most_relations (suc (all_of one ts)) Relations) (cond (nat_lt most_attributes (length (header shape empty_table))) (Some Attributes) None))
      (created_judged db rs label constants (said_missing constants label rs ts said absent) legal distinct
      ∙ (λ i. option_or (full most_relations (said_many constants rs ts said i) Relations) (too_many most_attributes (length constants) Attributes))
      ∙ ap (λ (o : Option Refusal). option_or o (too_many most_attributes (length constants) Attributes)) (sym (past_full most_relations (all_of one ts) Relations))
      ∙ either (past most_relations (suc (all_of one ts)) Relations) (nat_lt most_attributes (length constants))
      ∙ ap (λ (n : ℕ). option_map Limit (option_or (past most_relations (suc (all_of one ts)) Relations) (cond (nat_lt most_attributes n) (Some Attributes) None))) (sym (header_none shape.spot)))
      (table_came shape db ts order counts label absent)
    where
      either : (o : Option Which) (b : Bool) → option_or (option_map Limit o) (where_true b (Limit Attributes)) ≡ option_map Limit (option_or o (cond b (Some Attributes) None))
      either (Some w) b = refl
      either None true = refl
      either None false = refl

      header_none : (n : Option ℕ) → length (spliced n constants []) ≡ length constants
      header_none None = refl
      header_none (Some n) =
          let a = splice_long (Some n) constants [] (λ e. absurd (cc)) in
          omega (arith, a)

  row_minus_judged : (label : Text) (key : Row) → fits_label ts (RowMinus label key) ≡ true → Judged (Delete db label (record_of constants (attributes_of (whole db rs) db label) (table_at ts label) key) ∷ []) (at_table label (without_row key) ts)
  row_minus_judged label key fits =
      let f = found_table ts (RowMinus label key) fits in
      let found = said_found constants label rs ts f.table said f.found in
      let same = same_record constants db distinct rs ts order said label key found.0 f.table found.1 f.found in
      let there = record_there constants found.0 f.table found.2 key f.fits in
      let table = found.2.table in
      let less = one_key_less f.table key (λ k. 1) table f.fits in
      let before = keys_long f.table in
      let later = keys_long (without_row key f.table) in
      not_judged (Delete db label (record_of constants (attributes_of (whole db rs) db label) (table_at ts label) key)) (at_table label (without_row key) ts)
      (delete_judged db rs label _ found.0 found.1 (record_long found.0 (text_of constants f.table key) _ same) (subst (λ (row : Row). list_any (row_eq row) found.0.rows ≡ true) same there))
      (no_greater shape db ts order counts label f.table (without_row key) f.found (omega arith) (omega (arith, less, before, later)))

  column_minus_judged : (label column : Text) → fits_label ts (ColumnMinus label column) ≡ true → Judged (DropAttribute db label column ∷ []) (at_table label (without_column column) ts)
  column_minus_judged label column fits =
      let f = found_table ts (ColumnMinus label column) fits in
      let found = said_found constants label rs ts f.table said f.found in
      let there : is_in column found.0.attributes ≡ true = in_upper constants found.0 f.table found.2 column ∙ ap (λ (b : Bool). is_in column constants || b) f.fits ∙ or_true (is_in column constants) in
      let width = says_wide constants found.0 f.table found.2 in
      let column_there = some_columns f.table.columns f.fits in
      not_judged (DropAttribute db label column) (at_table label (without_column column) ts)
      (drop_judged db rs label column found.0 found.1 there (omega (arith, width, column_there, some)))
      (no_greater shape db ts order counts label f.table (without_column column) f.found (both_wide shape.spot f.table (without_column column f.table) (remove_short f.table.columns (column_place column f.table.columns)))
      (let same = length-map f.table.rows (without_cell (column_place column f.table.columns)) in omega (arith, same)))
    where
      or_true : (b : Bool) → (b || true) ≡ true
      or_true true = refl
      or_true false = refl

      some_columns : (columns : Row) → is_in column columns ≡ true → 1 ≤ length columns
      some_columns [] h = absurd (cc)
      some_columns (c ∷ cs) h = omega arith

  column_plus_judged : (label column : Text) → fits_label ts (ColumnPlus label column) ≡ true → is_in column constants ≡ false → is_some shape.spot ≡ true → Judged (AddAttribute db label column [] ∷ []) (at_table label (with_column column) ts)
  column_plus_judged label column fits dynamic legal =
      let f = found_table ts (ColumnPlus label column) fits in
      let found = said_found constants label rs ts f.table said f.found in
      let absent : is_in column found.0.attributes ≡ false = in_upper constants found.0 f.table found.2 column ∙ (λ i. dynamic i || not_true (has_column column f.table) f.fits i) in
      let own = header_wide shape.spot f.table legal in
      let new = header_wide shape.spot (with_column column f.table) legal in
      let longer = insert_long f.table.columns (column_place column f.table.columns) column in
      let width = says_wide constants found.0 f.table found.2 in
      let same : length found.0.attributes ≡ length (header shape f.table) = omega (arith, width, own) in
      one_judged (AddAttribute db label column []) (at_table label (with_column column) ts) (past most_attributes (suc (length (header shape f.table))) Attributes)
      (add_judged db rs label column found.0 found.1 absent ∙ ap (λ (n : ℕ). full most_attributes n Attributes) same ∙ sym (past_full most_attributes (length (header shape f.table)) Attributes))
      (column_came shape db ts order counts label f.table (with_column column) f.found (omega (arith, own, new, longer)) (length-map f.table.rows (with_empty_cell (column_place column f.table.columns))))

  row_plus_judged : (label : Text) (key : Row) (cells : List (Text × Text)) → fits_label ts (RowPlus label key) ≡ true → Judged (Insert db label (record_after constants (attributes_of (whole db rs) db label) (table_at ts label) key cells) ∷ []) (at_table label (with_row key) ts)
  row_plus_judged label key cells fits =
      let f = found_table ts (RowPlus label key) fits in
      let found = said_found constants label rs ts f.table said f.found in
      let same = same_after constants db distinct rs ts order said label key cells found.0 f.table found.1 f.found in
      let more = one_key_more (λ k. 1) key (replicate (length f.table.columns) []) f.table.rows (not_true (has_row key f.table) f.fits) in
      let before = keys_long f.table in
      let later = keys_long (with_row key f.table) in
      one_judged (Insert db label (record_after constants (attributes_of (whole db rs) db label) (table_at ts label) key cells)) (at_table label (with_row key) ts) (past most_rows (suc (all_of row_number ts)) Rows)
      (insert_judged db rs label _ found.0 found.1 (record_long found.0 (λ name. text_after name cells (text_of constants f.table key name)) _ same) ∙ ap (λ (n : ℕ). full most_rows n Rows) (all_rows constants db rs ts said) ∙ sym (past_full most_rows (all_of row_number ts) Rows))
      (row_came shape db ts order counts label f.table (with_row key) f.found (omega arith) (omega (arith, more, before, later)))

  cells_judged : (label column value : Text) (key : Row) (lines : List TableLine) → fits_label ts (Cell label column value key) ≡ true
      → Judged (lifted_line db constants (table_at ts label) (attributes_of (whole db rs) db label) (Cell label column value key) lines) (at_table label (with_cell key column value) ts)
  cells_judged label column value key lines fits =
      ap (λ (o : Option Refusal). option_or o (option_or (fault (after (whole db rs) (Delete db label old)) (Insert db label new)) None)) first
      ∙ or_none (fault (after (whole db rs) (Delete db label old)) (Insert db label new))
      ∙ ap (λ (c : CatalogueValue). fault c (Insert db label new)) gone.1
      ∙ insert_judged db gone.0 label new later.0 later.1 (record_long found.0 texts new same_new ∙ width)
      ∙ not_full most_rows (row_count (whole db gone.0)) Rows room
      ∙ sym (ap (option_map Limit) (cell_within shape db ts order counts label column value key fits))
    where
      f : Found ts (Cell label column value key)
      f = found_table ts (Cell label column value key) fits

      t : TableValue
      t = f.table

      there : has_row key t ≡ true
      there = and_first (has_row key t) (has_column column t) f.fits

      found : (r : RelationValue) × (relation_at label rs ≡ Some r) × Says constants r t
      found = said_found constants label rs ts t said f.found

      old : Row
      old = record_of constants (attributes_of (whole db rs) db label) (table_at ts label) key

      cells : List (Text × Text)
      cells = (column, value) ∷ front_cells label key lines

      new : Row
      new = record_after constants (attributes_of (whole db rs) db label) (table_at ts label) key cells

      texts : Text → Text
      texts = λ name. text_after name cells (text_of constants t key name)

      same_old : record_of constants found.0.attributes t key ≡ old
      same_old = same_record constants db distinct rs ts order said label key found.0 t found.1 f.found

      same_new : record_after constants found.0.attributes t key cells ≡ new
      same_new = same_after constants db distinct rs ts order said label key cells found.0 t found.1 f.found

      first : fault (whole db rs) (Delete db label old) ≡ None
      first = delete_judged db rs label old found.0 found.1 (record_long found.0 (text_of constants t key) old same_old)
          (subst (λ (row : Row). list_any (row_eq row) found.0.rows ≡ true) same_old (record_there constants found.0 t found.2 key there))

      gone : IsSaid constants db (after (whole db rs) (Delete db label old)) (at_table label (without_row key) ts)
      gone = row_gone constants db distinct rs ts order said label key lines (ap (λ (o : Option TableValue). option_map_or (fits_table (RowMinus label key)) o false) f.found ∙ there)

      later : (r : RelationValue) × (relation_at label gone.0 ≡ Some r) × Says constants r (without_row key t)
      later = said_found constants label gone.0 (at_table label (without_row key) ts) (without_row key t) gone.2 (lookup_changed text_order (without_row key) ts label label ∙ rw (same_bytes label, f.found) refl)

      width : length found.0.attributes ≡ length later.0.attributes
      width = says_wide constants found.0 t found.2 ∙ sym (says_wide constants later.0 (without_row key t) later.2)

      room : row_count (whole db gone.0) < most_rows
      room =
          let table = found.2.table in
          let count = all_rows constants db gone.0 (at_table label (without_row key) ts) gone.2 in
          let swapped = one_table_other ts order label t f.found row_number (without_row key) in
          let less = one_key_less t key (λ k. 1) table there in
          let before = keys_long t in
          let behind = keys_long (without_row key t) in
          let all = counts.room in
          omega (arith, count, swapped, less, before, behind, all)

  -- the changes of a line are refused by the limit that the database of the tables after it passes
  pub line_judged : (line : TableLine) (lines : List TableLine) → fits_line ts line ≡ true → IsDynamic constants line → IsLegal shape line
      → Judged (lifted_line db constants (table_at ts (label_of line)) (attributes_of (whole db rs) db (label_of line)) line lines) (after_line ts line)
  line_judged (TableMinus label) lines fits dynamic legal = table_minus_judged label fits
  line_judged (TablePlus label) lines fits dynamic legal = table_plus_judged label (not_true (has_table ts label) fits) legal
  line_judged (RowMinus label key) lines fits dynamic legal = row_minus_judged label key fits
  line_judged (ColumnMinus label column) lines fits dynamic legal = column_minus_judged label column fits
  line_judged (ColumnPlus label column) lines fits dynamic legal = column_plus_judged label column fits dynamic legal
  line_judged (RowPlus label key) lines fits dynamic legal = row_plus_judged label key (front_cells label key lines) fits
  line_judged (Cell label column value key) lines fits dynamic legal = cells_judged label column value key lines fits

-- a line that goes on with a row passes none
pub goes_on_within : (shape : Shape) (db : Text) (ts : TablesValue) (row : Option (Text × Row)) (line : TableLine) → AreTables ts → first_limit (database_for db shape ts) ≡ None → goes_on row line ≡ true → fits_line ts line ≡ true
    → first_limit (database_for db shape (after_line ts line)) ≡ None
goes_on_within shape db ts None line order within h fits = absurd (cc)
goes_on_within shape db ts (Some row) (TableMinus l) order within h fits = absurd (cc)
goes_on_within shape db ts (Some row) (TablePlus l) order within h fits = absurd (cc)
goes_on_within shape db ts (Some row) (RowMinus l k) order within h fits = absurd (cc)
goes_on_within shape db ts (Some row) (ColumnMinus l c) order within h fits = absurd (cc)
goes_on_within shape db ts (Some row) (ColumnPlus l c) order within h fits = absurd (cc)
goes_on_within shape db ts (Some row) (RowPlus l k) order within h fits = absurd (cc)
goes_on_within shape db ts (Some row) (Cell label column value key) order within h fits = cell_within shape db ts order (counts_within shape db ts within) label column value key fits
