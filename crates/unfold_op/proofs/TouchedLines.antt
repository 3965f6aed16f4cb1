-- The lines for one table come of the facts that a change names.
use Rattle.std.proofs.Common.{◌≡◌, ◌∷◌, ◌++◌, [], Bool, true, false, List, Option, Some, None, refl, sym, ◌∙◌, ap, map, length}
use Rattle.std.specs.Prelude.{not, ◌==◌, ◌&&◌, ◌||◌, filter, flat_map, unwrap_or, option_map, if◌then◌else◌}
use Rattle.std.specs.Option.{option_map_or}
use Rattle.std.specs.List.{list_any, filter_map, cons_option, AllByRecursion}
use Rattle.std.specs.List.Sorted.{IsStrictlySortedBy}
use Rattle.std.specs.Cmp.{on_total, then_total}
use Rattle.std.specs.Cmp.Lexicographic.{nat_list_cmp_total, lists_total}
use Rattle.std.specs.FinMap.{IsAntisymmetric}
use Rattle.std.specs.declared.cmp.Ordering.{Ordering}
use Rattle.std.specs.declared.cmp.Ordering.TheVariants.{Less, Equal, Greater}
use Rattle.std.specs.Ordering.{ordering_then, is_eq}
use Rattle.std.proofs.lemmas.Cmp.{tied_itself}
use Rattle.ss_text.specs.Texts.{Text, Row, text_eq, row_eq, text_cmp, row_cmp, is_in}
use Rattle.ss_text.proofs.KeyLemmas.{IsKeyOrder, text_order, row_order, equal_itself}
use Rattle.ss_text.proofs.PairLemmas.{any_ascending, ascending_ascends}
use Rattle.ss_text.proofs.SetLemmas.{SameElements, least_of_same}
use Rattle.flow_law.specs.Facts.{Fact, column_of, values_at}
use Rattle.flow_law.specs.FactTables.{value_for, fact_table}
use Rattle.flow_law.specs.Script.{keys_beyond, columns_beyond, cell_line, lines_between}
use Rattle.flow_law.specs.declared.line.TableLine.{TableLine}
use Rattle.flow_law.specs.declared.line.TableLine.TheVariants.{Cell}
use Rattle.unfold_op.specs.Touched.{Place, Entry, place_cmp, place_eq, place_of, entry_of, bears_key, bears_column, bears_place, has_key, has_column, keys_named, columns_named, places_named, value_moves, touched_lines, SameBeyond}
use Rattle.unfold_op.proofs.Picked.{among, among_if, filters_same}
use Rattle.unfold_op.proofs.FactCells.{row_keys_are, key_named, column_named, cell_of_facts}

-- places and their order
first_equal : (r s : Ordering) → ordering_then r s ≡ Equal → r ≡ Equal
first_equal Less s e = absurd (cc)
first_equal Equal s e = refl
first_equal Greater s e = absurd (cc)

second_equal : (r s : Ordering) → ordering_then r s ≡ Equal → s ≡ Equal
second_equal Less s e = absurd (cc)
second_equal Equal s e = e
second_equal Greater s e = absurd (cc)

place_same : IsAntisymmetric place_cmp
place_same a b e =
    let keys = row_order.same a.0 b.0 (first_equal (row_cmp a.0 b.0) _ e) in
    let columns = text_order.same a.1 b.1 (second_equal (row_cmp a.0 b.0) _ e) in
    λ i. (keys i, columns i)

both_ties : (r s : Ordering) → is_eq r && is_eq s ≡ is_eq (ordering_then r s)
both_ties Less s = refl
both_ties Equal s = refl
both_ties Greater s = refl

pub place_order : IsKeyOrder place_cmp place_eq
place_order = record {
  total = then_total (on_total (λ (p : Place). p.0) (lists_total nat_list_cmp_total)) (on_total (λ (p : Place). p.1) nat_list_cmp_total);
  same = place_same;
  ties = λ a b. rw (row_order.ties a.0 b.0, text_order.ties a.1 b.1) (both_ties (row_cmp a.0 b.0) (text_cmp a.1 b.1));
}

-- all places of keys and columns
abbrev pub all_places : List Row → Row → List Place
all_places ks cs = flat_map (λ k. map (λ c. let p : Place = (k, c) in p) cs) ks

any_pairs : (q : Place) (k : Row) (cs : Row) → list_any (place_eq q) (map (λ c. let p : Place = (k, c) in p) cs) ≡ (row_eq q.0 k && is_in q.1 cs)
any_pairs q k [] = none (row_eq q.0 k)
  where
    none : (b : Bool) → false ≡ (b && false)
    none true = refl
    none false = refl
any_pairs q k (c ∷ cs) = ap (λ b. place_eq q (k, c) || b) (any_pairs q k cs) ∙ shared (row_eq q.0 k) (text_eq q.1 c) (is_in q.1 cs)
  where
    shared : (a b d : Bool) → ((a && b) || (a && d)) ≡ (a && (b || d))
    shared true b d = refl
    shared false b d = refl

any_append : (q : Place) (xs ys : List Place) → list_any (place_eq q) (xs ++ ys) ≡ (list_any (place_eq q) xs || list_any (place_eq q) ys)
any_append q [] ys = refl
any_append q (x ∷ xs) ys = ap (λ b. place_eq q x || b) (any_append q xs ys) ∙ either (place_eq q x)
  where
    either : (a : Bool) → (a || (list_any (place_eq q) xs || list_any (place_eq q) ys)) ≡ ((a || list_any (place_eq q) xs) || list_any (place_eq q) ys)
    either true = refl
    either false = refl

pub any_place : (q : Place) (ks : List Row) (cs : Row) → list_any (place_eq q) (all_places ks cs) ≡ (list_any (row_eq q.0) ks && is_in q.1 cs)
any_place q [] cs = refl
any_place q (k ∷ ks) cs =
    any_append q (map (λ c. let p : Place = (k, c) in p) cs) (all_places ks cs)
    ∙ ap (λ b. b || list_any (place_eq q) (all_places ks cs)) (any_pairs q k cs) ∙ ap (λ b. (row_eq q.0 k && is_in q.1 cs) || b) (any_place q ks cs)
    ∙ shared (row_eq q.0 k) (list_any (row_eq q.0) ks) (is_in q.1 cs)
  where
    shared : (a b d : Bool) → ((a && d) || (b && d)) ≡ ((a || b) && d)
    shared true true d = both d
      where
        both : (d : Bool) → (d || d) ≡ d
        both true = refl
        both false = refl
    shared true false d = last d
      where
        last : (d : Bool) → (d || false) ≡ d
        last true = refl
        last false = refl
    shared false b d = refl

-- they ascend
all_pairs : (P : Place → Type 0) (k : Row) (cs : Row) → AllByRecursion (λ c. P (k, c)) cs → AllByRecursion P (map (λ c. let p : Place = (k, c) in p) cs)
all_pairs P k [] h = tt
all_pairs P k (c ∷ cs) h = (h.0, all_pairs P k cs h.1)

all_joined : (P : Place → Type 0) (xs ys : List Place) → AllByRecursion P xs → AllByRecursion P ys → AllByRecursion P (xs ++ ys)
all_joined P [] ys h i = i
all_joined P (x ∷ xs) ys h i = (h.0, all_joined P xs ys h.1 i)

each : (P : Text → Type 0) (cs : Row) → ((c : Text) → P c) → AllByRecursion P cs
each P [] h = tt
each P (c ∷ cs) h = (h c, each P cs h)

all_later : (p : Place) (ks : List Row) (cs : Row) → AllByRecursion (λ j. row_cmp p.0 j ≡ Less) ks → AllByRecursion (λ r. place_cmp p r ≡ Less) (all_places ks cs)
all_later p [] cs h = tt
all_later p (k ∷ ks) cs h =
    all_joined (λ r. place_cmp p r ≡ Less) (map (λ c. let r : Place = (k, c) in r) cs) (all_places ks cs)
    (all_pairs (λ r. place_cmp p r ≡ Less) k cs (each (λ c. place_cmp p (k, c) ≡ Less) cs (λ c. rw h.0 refl))) (all_later p ks cs h.1)

all_right : (k : Row) (c : Text) (cs : Row) → AllByRecursion (λ d. text_cmp c d ≡ Less) cs → AllByRecursion (λ d. place_cmp (k, c) (k, d) ≡ Less) cs
all_right k c [] h = tt
all_right k c (d ∷ ds) h = (rw (tied_itself row_order.total k) h.0, all_right k c ds h.1)

row_ascends : (k : Row) (cs : Row) (rest : List Place) → IsStrictlySortedBy text_cmp cs → ((c : Text) → AllByRecursion (λ r. place_cmp (k, c) r ≡ Less) rest) → IsStrictlySortedBy place_cmp rest
    → IsStrictlySortedBy place_cmp (map (λ c. let p : Place = (k, c) in p) cs ++ rest)
unfolding IsStrictlySortedBy
row_ascends k [] rest s later sorted = sorted
row_ascends k (c ∷ cs) rest s later sorted = (
  all_joined (λ r. place_cmp (k, c) r ≡ Less) (map (λ d. let p : Place = (k, d) in p) cs) rest (all_pairs (λ r. place_cmp (k, c) r ≡ Less) k cs (all_right k c cs s.0)) (later c),
  row_ascends k cs rest s.1 later sorted,
)

pub places_ascend : (ks : List Row) (cs : Row) → IsStrictlySortedBy row_cmp ks → IsStrictlySortedBy text_cmp cs → IsStrictlySortedBy place_cmp (all_places ks cs)
unfolding IsStrictlySortedBy
places_ascend [] cs s t = tt
places_ascend (k ∷ ks) cs s t = row_ascends k cs (all_places ks cs) t (λ c. all_later (k, c) ks cs s.0) (places_ascend ks cs s.1 t)

-- a fact names a place where it has a value for it
any_named : (q : Place) (fs : List Fact) → list_any (place_eq q) (filter_map place_of fs) ≡ list_any (bears_place q) fs
any_named q [] = refl
any_named q (f ∷ fs) = by_entry (entry_of f) (any_named q fs)
  where
    by_entry : (e : Option Entry) → list_any (place_eq q) (filter_map place_of fs) ≡ list_any (bears_place q) fs
        → list_any (place_eq q) (cons_option (option_map (λ (d : Entry). d.0) e) (filter_map place_of fs)) ≡ option_map_or (λ (d : Entry). place_eq q d.0) e false || list_any (bears_place q) fs
    by_entry None rest = rest
    by_entry (Some e) rest = ap (λ b. place_eq q e.0 || b) rest

pub place_named : (q : Place) (fs : List Fact) → list_any (place_eq q) (places_named fs) ≡ list_any (bears_place q) fs
place_named q fs = any_ascending place_order q (filter_map place_of fs) ∙ any_named q fs

pub keys_ascend : (fs : List Fact) → IsStrictlySortedBy row_cmp (keys_named fs)
keys_ascend fs = ascending_ascends row_order (map (λ (f : Fact). f.key) fs)

pub columns_ascend : (fs : List Fact) → IsStrictlySortedBy text_cmp (columns_named fs)
columns_ascend fs = ascending_ascends text_order (filter_map column_of fs)

-- a test on the values of a place is a test on facts
abbrev pub passes : (Text → Bool) → Place → Fact → Bool
passes p q f = option_map_or (λ (e : Entry). place_eq q e.0 && p e.1) (entry_of f) false

pub any_value : (p : Text → Bool) (q : Place) (fs : List Fact) → list_any p (values_at fs q.0 q.1) ≡ list_any (passes p q) fs
any_value p q [] = refl
any_value p q (f ∷ fs) = by_key (row_eq q.0 f.key) refl f.cell refl (any_value p q fs)
  where
    by_key : (b : Bool) → row_eq q.0 f.key ≡ b → (d : Option (Text × Text)) → f.cell ≡ d → list_any p (values_at fs q.0 q.1) ≡ list_any (passes p q) fs → list_any p (values_at (f ∷ fs) q.0 q.1) ≡ list_any (passes p q) (f ∷ fs)
    by_key b e None is rest = by_none b e
      where
        by_none : (b : Bool) → row_eq q.0 f.key ≡ b → list_any p (values_at (f ∷ fs) q.0 q.1) ≡ list_any (passes p q) (f ∷ fs)
        by_none true e = rw (e, is) rest
        by_none false e = rw (e, is) rest
    by_key false e (Some d) is rest = by_value (length d.1 == 0) refl
      where
        by_value : (n : Bool) → (length d.1 == 0) ≡ n → list_any p (values_at (f ∷ fs) q.0 q.1) ≡ list_any (passes p q) (f ∷ fs)
        by_value true u = rw (is, u, e) rest
        by_value false u = rw (is, u, e) rest
    by_key true e (Some d) is rest = by_column (text_eq q.1 d.0) refl (length d.1 == 0) refl
      where
        by_column : (b : Bool) → text_eq q.1 d.0 ≡ b → (n : Bool) → (length d.1 == 0) ≡ n → list_any p (values_at (f ∷ fs) q.0 q.1) ≡ list_any (passes p q) (f ∷ fs)
        by_column false t true u = rw (is, u, e, t) rest
        by_column false t false u = rw (is, u, e, t) rest
        by_column true t true u = rw (is, e, t, u) rest
        by_column true t false u = rw (is, u) (rw (e, t) (rw u (ap (λ b. p d.1 || b) rest)))

pub none_passes : (p : Text → Bool) (q : Place) (fs : List Fact) → list_any (bears_place q) fs ≡ false → list_any (passes p q) fs ≡ false
none_passes p q [] h = refl
none_passes p q (f ∷ fs) h = by_entry (entry_of f) (none_passes p q fs) h
  where
    by_entry : (e : Option Entry) → (list_any (bears_place q) fs ≡ false → list_any (passes p q) fs ≡ false) → (option_map_or (λ (d : Entry). place_eq q d.0) e false || list_any (bears_place q) fs) ≡ false
        → (option_map_or (λ (d : Entry). place_eq q d.0 && p d.1) e false || list_any (passes p q) fs) ≡ false
    by_entry None rest h = rest h
    by_entry (Some e) rest h = by_test (place_eq q e.0) h
      where
        by_test : (b : Bool) → (b || list_any (bears_place q) fs) ≡ false → ((b && p e.1) || list_any (passes p q) fs) ≡ false
        by_test true h = absurd (cc)
        by_test false h = rest h

-- the values of a place that no named fact bears
module _ (named old new : List Fact) (beyond : SameBeyond named old new) where
  pub same_values : (q : Place) → list_any (bears_place q) named ≡ false → SameElements (values_at old q.0 q.1) (values_at new q.0 q.1)
  same_values q h = record { same = λ p. any_value p q old ∙ beyond.same (passes p q) (none_passes p q named h) ∙ sym (any_value p q new) }

  pub same_value : (q : Place) → list_any (bears_place q) named ≡ false → value_for old q.0 q.1 ≡ value_for new q.0 q.1
  same_value q h = ap (λ (v : Option Text). unwrap_or v []) (least_of_same text_order.total text_order.same _ _ (same_values q h))

  -- rows and columns that go and come
  key_same : (q : Row) → list_any (row_eq q) (keys_named named) ≡ false → has_key old q ≡ has_key new q
  key_same q h = beyond.same (bears_key q) (sym (key_named q named) ∙ h)

  column_same : (q : Text) → is_in q (columns_named named) ≡ false → has_column old q ≡ has_column new q
  column_same q h = beyond.same (bears_column q) (sym (column_named q named) ∙ h)

  keys_gone : keys_beyond (keys_named new) (keys_named old) ≡ filter (λ key. has_key old key && not (has_key new key)) (keys_named named)
  keys_gone = filters_same row_order _ _ (keys_named old) (keys_named named) (keys_ascend old) (keys_ascend named)
      (λ k. rw (key_named k old, key_named k new) (among (has_key old k) (has_key new k) (list_any (row_eq k) (keys_named named)) (key_same k)))

  keys_new : keys_beyond (keys_named old) (keys_named new) ≡ filter (λ key. has_key new key && not (has_key old key)) (keys_named named)
  keys_new = filters_same row_order _ _ (keys_named new) (keys_named named) (keys_ascend new) (keys_ascend named)
      (λ k. rw (key_named k old, key_named k new) (among (has_key new k) (has_key old k) (list_any (row_eq k) (keys_named named)) (λ h. sym (key_same k h))))

  columns_gone : columns_beyond (columns_named new) (columns_named old) ≡ filter (λ column. has_column old column && not (has_column new column)) (columns_named named)
  columns_gone = filters_same text_order _ _ (columns_named old) (columns_named named) (columns_ascend old) (columns_ascend named)
      (λ c. rw (column_named c old, column_named c new) (among (has_column old c) (has_column new c) (is_in c (columns_named named)) (column_same c)))

  columns_new : columns_beyond (columns_named old) (columns_named new) ≡ filter (λ column. has_column new column && not (has_column old column)) (columns_named named)
  columns_new = filters_same text_order _ _ (columns_named new) (columns_named named) (columns_ascend new) (columns_ascend named)
      (λ c. rw (column_named c old, column_named c new) (among (has_column new c) (has_column old c) (is_in c (columns_named named)) (λ h. sym (column_same c h))))

  -- the cells
  abbrev moves : Place → Bool
  moves p = not (text_eq (value_for old p.0 p.1) (value_for new p.0 p.1))

  abbrev line : Text → Place → TableLine
  line label p = Cell label p.1 (value_for new p.0 p.1) p.0

  row_lines : (label : Text) (key : Row) (cs : Row) → filter_map (cell_line label (fact_table old) (fact_table new) key) cs ≡ map (line label) (filter moves (map (λ c. let p : Place = (key, c) in p) cs))
  row_lines label key [] = refl
  row_lines label key (c ∷ cs) = rw (cell_of_facts old key c, cell_of_facts new key c) (by_test (text_eq (value_for old key c) (value_for new key c)) refl (row_lines label key cs))
    where
      by_test : (b : Bool) → text_eq (value_for old key c) (value_for new key c) ≡ b
          → filter_map (cell_line label (fact_table old) (fact_table new) key) cs ≡ map (line label) (filter moves (map (λ d. let p : Place = (key, d) in p) cs))
          → cons_option (if b then None else Some (Cell label c (value_for new key c) key)) (filter_map (cell_line label (fact_table old) (fact_table new) key) cs)
          ≡ map (line label) (filter moves ((key, c) ∷ map (λ d. let p : Place = (key, d) in p) cs))
      by_test true e rest = rw e rest
      by_test false e rest = rw e (ap (λ ls. Cell label c (value_for new key c) key ∷ ls) rest)

  lines_joined : (label : Text) (xs ys : List Place) → map (line label) (filter moves (xs ++ ys)) ≡ map (line label) (filter moves xs) ++ map (line label) (filter moves ys)
  lines_joined label [] ys = refl
  lines_joined label (x ∷ xs) ys = by_test (moves x) refl (lines_joined label xs ys)
    where
      by_test : (b : Bool) → moves x ≡ b → map (line label) (filter moves (xs ++ ys)) ≡ map (line label) (filter moves xs) ++ map (line label) (filter moves ys)
          → map (line label) (filter moves (x ∷ (xs ++ ys))) ≡ map (line label) (filter moves (x ∷ xs)) ++ map (line label) (filter moves ys)
      by_test true e rest = rw e (ap (λ ls. line label x ∷ ls) rest)
      by_test false e rest = rw e rest

  cell_lines : (label : Text) (ks : List Row) (cs : Row) → flat_map (λ key. filter_map (cell_line label (fact_table old) (fact_table new) key) cs) ks ≡ map (line label) (filter moves (all_places ks cs))
  cell_lines label [] cs = refl
  cell_lines label (k ∷ ks) cs =
      ap (λ ls. ls ++ flat_map (λ key. filter_map (cell_line label (fact_table old) (fact_table new) key) cs) ks) (row_lines label k cs)
      ∙ ap (λ ls. map (line label) (filter moves (map (λ c. let p : Place = (k, c) in p) cs)) ++ ls) (cell_lines label ks cs)
      ∙ sym (lines_joined label (map (λ c. let p : Place = (k, c) in p) cs) (all_places ks cs))

  stays : (p : Place) → list_any (bears_place p) named ≡ false → moves p ≡ false
  stays p h = rw (same_value p h, equal_itself text_order (value_for new p.0 p.1)) refl

  places_moved : filter moves (all_places (keys_named new) (columns_named new)) ≡ filter (value_moves old new) (places_named named)
  places_moved = filters_same place_order moves (value_moves old new) (all_places (keys_named new) (columns_named new)) (places_named named)
      (places_ascend (keys_named new) (columns_named new) (keys_ascend new) (columns_ascend new)) (ascending_ascends place_order (filter_map place_of named))
      (λ p. rw (any_place p (keys_named new) (columns_named new), key_named p.0 new, column_named p.1 new, place_named p named)
      (among_if (has_key new p.0 && has_column new p.1) (moves p) (list_any (bears_place p) named) (stays p)))

  pub changed_touched : (label : Text) → lines_between label (fact_table old) (fact_table new) ≡ touched_lines label named old new
  changed_touched label =
      rw (row_keys_are old, row_keys_are new, keys_gone, keys_new, columns_gone, columns_new, cell_lines label (keys_named new) (columns_named new), places_moved) refl

pub changed_is_touched : (label : Text) (named old new : List Fact) → SameBeyond named old new → lines_between label (fact_table old) (fact_table new) ≡ touched_lines label named old new
changed_is_touched label named old new beyond = changed_touched named old new beyond label
