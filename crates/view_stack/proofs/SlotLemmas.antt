-- What the tables of slots come to as a database: its limits, and what it takes to put them into it.
use Rattle.std.proofs.Common.{Global, ◌≡◌, ◌<◌, ◌≤◌, ◌+◌, ◌∷◌, ◌++◌, ◌∙◌, [], ℕ, Bool, true, false, ◌||◌, List, Option, None, Some, refl, sym, ap, subst, length, map, take, drop, get_or, arith, length-append, append_assoc}
use Rattle.std.specs.Prelude.{Vec, Result, OnOk, IfNone, nat_lt}
use Rattle.std.specs.List.{AllByRecursion, list_any, list_all}
use Rattle.std.specs.List.Sorted.{IsStrictlySortedBy}
use Rattle.std.proofs.lemmas.Bool.{lt-ltb, le-ltb, ltb-true, ltb-false}
use Rattle.std.proofs.lemmas.List.{map-append, length-map}
use Rattle.std.proofs.lemmas.List.Folds.{list_any-append}
use Rattle.std.proofs.lemmas.List.Sums.{sum_by-cons, sum_by-append}
use Rattle.ss_text.specs.Texts.{Text, Row, text_cmp}
use Rattle.ss_text.specs.Label.{is_table_label}
use Rattle.ss_text.proofs.GroupLemmas.{strict_front}
use Rattle.flow_law.specs.declared.shape.Shape.{Shape}
use Rattle.flow_law.specs.Tables.{TableValue, TablesValue, labels_of}
use Rattle.flow_law.specs.InOrder.{IsTable, AreTables}
use Rattle.change_script.specs.Fits.{IsForm, TableFits, TablesFit}
use Rattle.row_shelves.specs.Stocks.{Stock}
use Rattle.row_shelves.specs.Shelves.{all_rows}
use Rattle.kept_tables.specs.Kept.{KeptTableValue}
use Rattle.kept_tables.specs.declared.slot.Held.{Held as Slot}
use Rattle.kept_tables.specs.Slots.{slot_label, table_there, tables_in}
use Rattle.kept_tables.proofs.SlotLemmas.{either}
use Rattle.kept_tables.proofs.ThereLemmas.{tables_joined, tables_more, one_there}
use Rattle.schema_model.specs.Catalogue.{RelationValue, CatalogueValue, relation_value, database_value, relation_names, rows_in}
use Rattle.schema_model.specs.Limits.{most_relations, most_attributes, most_rows}
use Rattle.schema_model.specs.States.{CatalogueState, settled}
use Rattle.schema_model.specs.Sound.{AreNames, IsRelation}
use Rattle.schema_model.proofs.Seen.{settled_if}
use Rattle.schema_model.specs.declared.refusal.Which.{Which}
use Rattle.schema_model.specs.declared.refusal.Which.TheVariants.{Relations, Attributes, Rows}
use Rattle.view_stack.specs.Limits.{first_limit, is_wide, row_total}
use Rattle.view_stack.specs.Putting.{rows_put, relations_put, CanTakeRows, CanTake}
use Rattle.view_stack.specs.Stands.{header, relation_for, database_for, catalogue_for}
use Rattle.flow_law.specs.Records.{spliced, row_records}
use Rattle.view_stack.proofs.PutLemmas.{split_at, shelves_joined, relation_takes, relation_filled}
use Rattle.view_stack.proofs.StandsLemmas.{header_long, header_distinct, records_fit}

-- ---- the tables of slots
-- those before a slot, its own, and those behind it
split_tables : (ss : List Slot) (i : ℕ) (s : Slot) → i < length ss → s ≡ get_or ss i s → tables_in ss ≡ tables_in (take i ss) ++ (tables_in (s ∷ []) ++ tables_in (drop (i + 1) ss))
split_tables ss i s lt is =
    ap tables_in (split_at ss i s lt is) ∙ tables_joined (take i ss) (s ∷ drop (i + 1) ss) ∙ ap (λ (ts : TablesValue). tables_in (take i ss) ++ ts) (tables_joined (s ∷ []) (drop (i + 1) ss))

-- ---- wide relations
module _ (shape : Shape) where
  abbrev pub some_wide : TablesValue → Bool
  some_wide ts = list_any is_wide (map (relation_for shape) ts)

  wide_joined : (ts us : TablesValue) → some_wide (ts ++ us) ≡ (some_wide ts || some_wide us)
  wide_joined ts us = ap (list_any is_wide) (map-append (relation_for shape) ts us) ∙ list_any-append is_wide (map (relation_for shape) ts) (map (relation_for shape) us)

  pub wide_there : (ss : List Slot) (i : ℕ) (s : Slot) → i < length ss → s ≡ get_or ss i s → some_wide (tables_in (s ∷ [])) ≡ true → some_wide (tables_in ss) ≡ true
  wide_there ss i s lt is wide =
      ap some_wide (split_tables ss i s lt is) ∙ wide_joined (tables_in (take i ss)) (tables_in (s ∷ []) ++ tables_in (drop (i + 1) ss))
      ∙ ap (λ (b : Bool). some_wide (tables_in (take i ss)) || b) (wide_joined (tables_in (s ∷ [])) (tables_in (drop (i + 1) ss)) ∙ ap (λ (b : Bool). b || some_wide (tables_in (drop (i + 1) ss))) wide)
      ∙ always (some_wide (tables_in (take i ss)))
    where
      always : (b : Bool) → (b || true) ≡ true
      always true = refl
      always false = refl

  pub none_wide : (ss : List Slot) (i : ℕ) (s : Slot) → i < length ss → s ≡ get_or ss i s → some_wide (tables_in (take i ss)) ≡ false → some_wide (tables_in (s ∷ [])) ≡ false → some_wide (tables_in (take (i + 1) ss)) ≡ false
  none_wide ss i s lt is before own =
      ap some_wide (tables_more ss i s lt is) ∙ wide_joined (tables_in (take i ss)) (tables_in (s ∷ [])) ∙ (λ j. before j || own j)

  pub slot_wide : (s : Slot) (t : KeptTableValue) → table_there s ≡ Some t → TablesFit shape (tables_in (s ∷ [])) → some_wide (tables_in (s ∷ [])) ≡ nat_lt most_attributes (length shape.constants + length t.table.columns)
  slot_wide s t some fit =
      let is = one_there s t some in
      let fits = subst (TablesFit shape) is fit in
      ap some_wide is ∙ ap (λ (n : ℕ). nat_lt most_attributes n || false) (header_long shape (slot_label s) t.table fits.0) ∙ alone (nat_lt most_attributes (length shape.constants + length t.table.columns))
    where
      alone : (b : Bool) → (b || false) ≡ b
      alone true = refl
      alone false = refl

-- ---- rows
rows_joined : (ts us : TablesValue) → row_total (ts ++ us) ≡ row_total ts + row_total us
rows_joined ts us = sum_by-append (λ (p : Text × TableValue). length p.1.rows) ts us

pub more_rows : (ss : List Slot) (i : ℕ) (s : Slot) → i < length ss → s ≡ get_or ss i s → row_total (tables_in (take (i + 1) ss)) ≡ row_total (tables_in (take i ss)) + row_total (tables_in (s ∷ []))
more_rows ss i s lt is = ap row_total (tables_more ss i s lt is) ∙ rows_joined (tables_in (take i ss)) (tables_in (s ∷ []))

pub all_rows_there : (ss : List Slot) (i : ℕ) (s : Slot) → i < length ss → s ≡ get_or ss i s → row_total (tables_in (take i ss)) + row_total (tables_in (s ∷ [])) ≤ row_total (tables_in ss)
all_rows_there ss i s lt is =
    let all = ap row_total (split_tables ss i s lt is) ∙ rows_joined (tables_in (take i ss)) (tables_in (s ∷ []) ++ tables_in (drop (i + 1) ss)) in
    let behind = rows_joined (tables_in (s ∷ [])) (tables_in (drop (i + 1) ss)) in
    omega (arith, all, behind)

pub rows_of_database : (db : Text) (shape : Shape) (ts : TablesValue) → rows_in (database_for db shape ts) ≡ row_total ts
rows_of_database db shape [] = refl
rows_of_database db shape (p ∷ ps) =
    sum_by-cons (λ (r : RelationValue). length r.rows) (relation_for shape p) (map (relation_for shape) ps)
    ∙ (λ i. length-map p.1.rows (λ (r : Row × Row). spliced shape.spot r.0 r.1) i + rows_of_database db shape ps i)
    ∙ sym (sum_by-cons (λ (q : Text × TableValue). length q.1.rows) p ps)

-- ---- the first limit
module _ (db : Text) (shape : Shape) (ts : TablesValue) where
  pub relations_long : length (map (relation_for shape) ts) ≡ length ts
  relations_long = length-map ts (relation_for shape)

  many_relations : most_relations < length ts → Some Relations ≡ first_limit (database_for db shape ts)
  many_relations h = rw (relations_long, lt-ltb most_relations (length ts) h) refl

  many_attributes : length ts ≤ most_relations → some_wide shape ts ≡ true → Some Attributes ≡ first_limit (database_for db shape ts)
  many_attributes few wide = rw (relations_long, le-ltb most_relations (length ts) few, wide) refl

  many_rows : length ts ≤ most_relations → some_wide shape ts ≡ false → most_rows < row_total ts → Some Rows ≡ first_limit (database_for db shape ts)
  many_rows few narrow h = rw (relations_long, le-ltb most_relations (length ts) few, narrow, rows_of_database db shape ts, lt-ltb most_rows (row_total ts) h) refl

  -- each count is within its limit where there is none
  pub record IsWithin : Type 0 where
    pub few : length ts ≤ most_relations
    pub narrow : some_wide shape ts ≡ false
    pub room : row_total ts ≤ most_rows

  pub within : first_limit (database_for db shape ts) ≡ None → IsWithin
  within h = by_relations (nat_lt most_relations (length ts)) (some_wide shape ts) (nat_lt most_rows (row_total ts)) refl refl refl
    where
      bad_limit : (w : Which) → Some w ≡ first_limit (database_for db shape ts) → IsWithin
      bad_limit w e = let bad : Some w ≡ None = e ∙ h in absurd (cc)

      by_relations : (a b c : Bool) → nat_lt most_relations (length ts) ≡ a → some_wide shape ts ≡ b → nat_lt most_rows (row_total ts) ≡ c → IsWithin
      by_relations true b c e f g = bad_limit Relations (many_relations (ltb-true most_relations (length ts) e))
      by_relations false true c e f g = bad_limit Attributes (many_attributes (ltb-false most_relations (length ts) e) f)
      by_relations false false true e f g = bad_limit Rows (many_rows (ltb-false most_relations (length ts) e) f (ltb-true most_rows (row_total ts) g))
      by_relations false false false e f g = record { few = ltb-false most_relations (length ts) e; narrow = f; room = ltb-false most_rows (row_total ts) g }

-- ---- the relation of a table, behind those of the tables before it
pub names_are : (db : Text) (shape : Shape) (ts : TablesValue) → relation_names (database_for db shape ts) ≡ labels_of ts
names_are db shape [] = refl
names_are db shape (p ∷ ps) = ap (λ (ls : List Text). p.0 ∷ ls) (names_are db shape ps)

labels_joined : (ts us : TablesValue) → labels_of (ts ++ us) ≡ labels_of ts ++ labels_of us
labels_joined [] us = refl
labels_joined (p ∷ ps) us = ap (λ (ls : List Text). p.0 ∷ ls) (labels_joined ps us)

module _ (db : Text) (shape : Shape) (all : TablesValue) (form : IsForm shape) (some : 1 ≤ length shape.constants) (order : AreTables all) (fits : TablesFit shape all) (h : first_limit (database_for db shape all) ≡ None) where
  are : IsWithin db shape all
  are = within db shape all h

  module _ (front : TablesValue) (p : Text × TableValue) (back : TablesValue) (is : all ≡ front ++ p ∷ back) where
    here : (P : Text × TableValue → Type 0) (ts : TablesValue) → AllByRecursion P (ts ++ p ∷ back) → P p
    here P [] h = h.0
    here P (t ∷ ts) h = here P ts h.1

    table : IsTable p.1
    table = here (λ (q : Text × TableValue). IsTable q.1) front (subst (AllByRecursion (λ (q : Text × TableValue). IsTable q.1)) is order.tables)

    fit : TableFits shape p.0 p.1
    fit = here (λ (q : Text × TableValue). TableFits shape q.0 q.1) front (subst (TablesFit shape) is fits)

    not_wide : is_wide (relation_for shape p) ≡ false
    not_wide = middle (some_wide shape front) (is_wide (relation_for shape p)) (some_wide shape back)
        (sym (ap (some_wide shape) is ∙ wide_joined shape front (p ∷ back)) ∙ are.narrow)
      where
        middle : (a b c : Bool) → (a || (b || c)) ≡ false → b ≡ false
        middle true b c e = absurd (cc)
        middle false true c e = absurd (cc)
        middle false false c e = refl

    names : AreNames (relation_names (database_for db shape front) ++ p.0 ∷ [])
    names = rw (names_are db shape front) (record {
      ascend = strict_front text_cmp (labels_of front ++ p.0 ∷ []) (labels_of back) (rw append_assoc (subst (λ (ls : List Text). IsStrictlySortedBy text_cmp ls) (ap labels_of is ∙ labels_joined front (p ∷ back)) order.labels));
      legal = each front (subst (TablesFit shape) is fits);
    })
      where
        each : (ts : TablesValue) → TablesFit shape (ts ++ p ∷ back) → list_all is_table_label (labels_of ts ++ p.0 ∷ []) ≡ true
        each [] f = rw f.0.legal refl
        each (t ∷ ts) f = rw (f.0.legal, each ts f.1) refl

    sound : IsRelation (relation_for shape p)
    sound = record {
      header = record {
        some = let n = header_long shape p.0 p.1 fit in omega (arith, n, some);
        few = ltb-false most_attributes (length (header shape p.1)) not_wide;
        distinct = header_distinct shape p.0 p.1 table fit form;
      };
      fits = records_fit shape p.0 p.1 table fit p.1.rows fit.keys table.cells;
    }

    takes : CanTake (catalogue_for db shape front) (length front) (relation_for shape p)
    takes = record {
      database = omega arith;
      place = sym (length-map front (relation_for shape));
      names = names;
      few =
          let n = ap length is ∙ length-append front (p ∷ back) in
          let few = are.few in
          omega (arith, n, few);
      sound = sound;
      room =
          let before = rows_of_database db shape front in
          let own = length-map p.1.rows (λ (r : Row × Row). spliced shape.spot r.0 r.1) in
          let total = ap row_total is ∙ rows_joined front (p ∷ back) in
          let behind = sum_by-cons (λ (q : Text × TableValue). length q.1.rows) p back in
          let room = are.room in
          omega (arith, before, own, total, behind, room);
    }

  pub slot_takes : (ss : List Slot) (i : ℕ) (s : Slot) (rel : ℕ) (c : CatalogueState) → all ≡ tables_in ss → i < length ss → s ≡ get_or ss i s → rel ≡ length (tables_in (take i ss)) → c ≡ settled (catalogue_for db shape (tables_in (take i ss)))
      → AllByRecursion (λ p. CanTake c.databases rel (relation_for shape p)) (tables_in (s ∷ []))
  slot_takes ss i s rel c own lt is count so_far =
      subst (λ (d : CatalogueValue). AllByRecursion (λ p. CanTake d rel (relation_for shape p)) (tables_in (s ∷ []))) (sym (ap (λ (x : CatalogueState). x.databases) so_far))
      (subst (λ (n : ℕ). AllByRecursion (λ p. CanTake (catalogue_for db shape (tables_in (take i ss))) n (relation_for shape p)) (tables_in (s ∷ []))) (sym count)
      (either s.there _ (λ e. rw e (takes (tables_in (take i ss)) (s.label, s.table.table) (tables_in (drop (i + 1) ss)) (own ∙ split_tables ss i s lt is ∙ rw e refl), tt)) (λ e. rw e tt)))

-- a slot more
pub slot_put : (db : Text) (shape : Shape) (ss : List Slot) (i : ℕ) (s : Slot) (c d : CatalogueState) → i < length ss → s ≡ get_or ss i s → c ≡ settled (catalogue_for db shape (tables_in (take i ss)))
    → d ≡ settled (relations_put (map (relation_for shape) (tables_in (s ∷ []))) c.databases) → d ≡ settled (catalogue_for db shape (tables_in (take (i + 1) ss)))
slot_put db shape ss i s c d lt is so_far added =
    added ∙ ap (λ (x : CatalogueState). settled (relations_put (map (relation_for shape) (tables_in (s ∷ []))) x.databases)) so_far
    ∙ ap (λ (rs : List RelationValue). settled (database_value db rs ∷ [])) (sym (map-append (relation_for shape) (tables_in (take i ss)) (tables_in (s ∷ []))) ∙ ap (map (relation_for shape)) (sym (tables_more ss i s lt is)))

pub slot_count : (ss : List Slot) (i : ℕ) (s : Slot) (n m : ℕ) → i < length ss → s ≡ get_or ss i s → n ≡ length (tables_in (take i ss)) → m ≡ n + length (tables_in (s ∷ [])) → m ≡ length (tables_in (take (i + 1) ss))
slot_count ss i s n m lt is so_far added = let more = ap length (tables_more ss i s lt is) ∙ length-append (tables_in (take i ss)) (tables_in (s ∷ [])) in omega (arith, so_far, added, more)

-- ---- the relation of a table
module _ (c : CatalogueValue) (rel : ℕ) (shape : Shape) (label : Text) (t : TableValue) (h : CanTake c rel (relation_for shape (label, t)))
    (name : Text) (attributes columns : Row) (rows : List (Row × Row)) (d : CatalogueState) (named : name ≡ label) (made : attributes ≡ spliced shape.spot shape.constants columns) (own : columns ≡ t.columns) (are : rows ≡ t.rows)
    (added : d ≡ settled (relations_put (relation_value name attributes [] ∷ []) c)) where
  begun : d.databases ≡ relations_put (relation_value label (header shape t) [] ∷ []) c
  begun =
      ap (λ (x : CatalogueState). x.databases) added
      ∙ (λ i. relations_put (relation_value (named i) ((made ∙ ap (spliced shape.spot shape.constants) own) i) [] ∷ []) c)

  pub shelves_fit : CanTakeRows d.databases rel (row_records shape.spot rows)
  shelves_fit = subst (λ (x : CatalogueValue). CanTakeRows x rel (row_records shape.spot rows)) (sym begun)
      (subst (λ (rs : List (Row × Row)). CanTakeRows (relations_put (relation_value label (header shape t) [] ∷ []) c) rel (row_records shape.spot rs)) (sym are) (relation_takes c rel (relation_for shape (label, t)) h))

  pub table_put : {A E : Type 0} (r : Result A E) (e : CatalogueState) → OnOk r (e ≡ settled (rows_put rel (row_records shape.spot rows) d.databases)) → OnOk r (e ≡ settled (relations_put (relation_for shape (label, t) ∷ []) c))
  table_put r e filled = settled_if r e _ _ ((λ i. rows_put rel (row_records shape.spot (are i)) (begun i)) ∙ relation_filled c rel (relation_for shape (label, t)) h) filled

pub one_name : (name db : Text) → name ≡ db → is_table_label db ≡ true → AreNames ([] ++ name ∷ [])
unfolding IsStrictlySortedBy
one_name name db same legal = record { ascend = (tt, tt); legal = rw (ap is_table_label same ∙ legal) refl }

pub none_holds : {A : Type 0} (o : Option A) (P : Type 0) → P → IfNone o P
none_holds None P h = h
none_holds (Some a) P h = tt

pub not_enough : (n m : ℕ) → ¬ (n ≤ m) → m < n
not_enough n m h = by_test (nat_lt m n) refl
  where
    by_test : (b : Bool) → nat_lt m n ≡ b → m < n
    by_test true e = ltb-true m n e
    by_test false e = absurd (h (ltb-false m n e))

pub shelf_rows_there : (shelves : List (Vec Stock Global)) (i : ℕ) (s : Vec Stock Global) (rows : List Stock) → i < length shelves → s ≡ get_or shelves i s → rows ≡ s.items → length (all_rows (take i shelves)) + length rows ≤ length (all_rows shelves)
shelf_rows_there shelves i s rows lt is own =
    let all = ap (λ (ss : List (Vec Stock Global)). length (all_rows ss)) (split_at shelves i s lt is) ∙ ap length (shelves_joined (take i shelves) (s ∷ drop (i + 1) shelves)) ∙ length-append (all_rows (take i shelves)) (s.items ++ all_rows (drop (i + 1) shelves)) in
    let behind = length-append s.items (all_rows (drop (i + 1) shelves)) in
    let same = ap length own in
    omega (arith, all, behind, same)
