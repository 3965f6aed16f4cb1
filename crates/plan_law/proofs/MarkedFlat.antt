-- The marked flat rows come to the others by an insert, and go from all by a delete.
use Rattle.std.proofs.Common.{◌≡◌, ◌<◌, ℕ, ◌+◌, ◌-◌, ◌==◌, zero, suc, List, [], ◌∷◌, ◌++◌, length, map, Bool, true, false, ◌&&◌, not, cond, refl, arith, ap, sym, ◌∙◌, append-nil, if◌then◌else◌}
use Rattle.std.specs.Prelude.{remove}
use Rattle.std.specs.List.{flat_map, position_or_len}
use Rattle.std.proofs.lemmas.List.{map-append}
use Rattle.std.proofs.lemmas.Bool.Decides.{nat_tests, Decides-eqb}
use Rattle.std.proofs.lemmas.List.Concat.{flat_map_single}
use Rattle.ss_text.specs.Texts.{Text, Row, text_eq, row_eq}
use Rattle.schema_model.specs.Catalogue.{RelationValue, DatabaseValue, CatalogueValue, with_row}
use Rattle.schema_model.specs.Changes.{after, at_relation_in, less_row}
use Rattle.schema_model.specs.Placed.{numbered}
use Rattle.schema_model.specs.declared.change.Change.{Change}
use Rattle.schema_model.specs.declared.change.Change.TheVariants.{Insert, Delete}
use Rattle.view_def.specs.Profile.{ranges_over_rows}
use Rattle.plan_law.specs.Kinds.{Place, Range}
use Rattle.plan_law.specs.Kinds.place
use Rattle.plan_law.specs.Kinds.range
use Rattle.unite_op.specs.NamedThings.{rows_behind}
use Rattle.fold_op.specs.Cells.{has_all, places_of, picked}
use Rattle.fold_op.specs.Flat.{pick_value, entries, fold_value}
use Rattle.schema_delta.specs.declared.spec.FlatSpec.{FlatSpec}
use Rattle.schema_delta.specs.Flat.{values_of, inside, goes_over, part, own, whole, flat}
use Rattle.plan_law.specs.Touched.{Marked}
use Rattle.plan_law.specs.Marks.{OfRow, comes, goes, is_changed, alone, with_mark, marked_part, marked_whole, marked_flat}
use Rattle.plan_law.proofs.FlatForm.{none_each, same_each, all_unit}
use Rattle.plan_law.proofs.TouchedLaws.{plain, any, cells_of, weigh-cells}
use Rattle.operator_law.specs.Bags.{weigh, SameBag}
use Rattle.operator_law.proofs.Weights.{weigh-same, weigh-map, weigh-append, weigh-flat_map}

mapped_each : {X Y Z : Type 0} (g : Y → Z) (f : X → List Y) (xs : List X) → map g (flat_map f xs) ≡ flat_map (λ x. map g (f x)) xs
mapped_each g f [] = refl
mapped_each g f (x ∷ xs) = map-append g (f x) (flat_map f xs) ∙ ap (λ r. map g (f x) ++ r) (mapped_each g f xs)

-- ---- what a relation contributes is what its rows do, one by one
pick_each : (wanted attributes : Row) (rows : List Row) → pick_value wanted (attributes, rows) ≡ flat_map (λ row. pick_value wanted (attributes, row ∷ [])) rows
pick_each wanted attributes rows = one (has_all wanted attributes)
  where
    one : (h : Bool) → cond h (map (picked wanted attributes) rows) [] ≡ flat_map (λ row. cond h (picked wanted attributes row ∷ []) []) rows
    one true = sym (flat_map_single (picked wanted attributes) rows)
    one false = sym (none_each rows)

fold_each : (wanted attributes : Row) (rows : List Row) → fold_value wanted (attributes, rows) ≡ flat_map (λ row. fold_value wanted (attributes, row ∷ [])) rows
unfolding fold_value
fold_each wanted attributes rows = one (has_all wanted attributes)
  where
    one : (h : Bool) → cond h (flat_map (entries (places_of wanted attributes) attributes) rows) [] ≡ flat_map (λ row. cond h (entries (places_of wanted attributes) attributes row ++ []) []) rows
    one true = same_each (λ row. Unit {0}) _ _ (λ row u. sym (append-nil (entries (places_of wanted attributes) attributes row))) rows (all_unit rows)
    one false = sym (none_each rows)

values_each : (a : Place) (attributes : Row) (rows : List Row) → values_of a (attributes, rows) ≡ flat_map (λ row. values_of a (attributes, row ∷ [])) rows
values_each (place.Fixed a) attributes rows = ap (rows_behind (a ∷ [])) (pick_each (a ∷ []) attributes rows) ∙ mapped_each (λ row. (a ∷ []) ++ row) (λ row. pick_value (a ∷ []) (attributes, row ∷ [])) rows
values_each (place.Var k) attributes rows = fold_each [] attributes rows

inside_each : (d : Range) (wanted : Row) (folded : Bool) (attributes : Row) (rows : List Row) → ranges_over_rows d ≡ true → inside d wanted folded (attributes, rows) ≡ flat_map (λ row. inside d wanted folded (attributes, row ∷ [])) rows
inside_each (range.Tuples p r) wanted true attributes rows over = fold_each wanted attributes rows
inside_each (range.Tuples p r) wanted false attributes rows over = pick_each wanted attributes rows
inside_each (range.Values p r a) wanted folded attributes rows over = values_each a attributes rows
inside_each range.Databases wanted folded attributes rows over = absurd (cc)
inside_each (range.Relations p) wanted folded attributes rows over = absurd (cc)
inside_each (range.Attributes p r) wanted folded attributes rows over = absurd (cc)
inside_each (range.Alias j a) wanted folded attributes rows over = absurd (cc)

-- other ranges do not read the rows
inside_other : (d : Range) (wanted : Row) (folded : Bool) (attributes : Row) (rows others : List Row) → ranges_over_rows d ≡ false → inside d wanted folded (attributes, rows) ≡ inside d wanted folded (attributes, others)
inside_other range.Databases wanted folded attributes rows others over = refl
inside_other (range.Relations p) wanted folded attributes rows others over = refl
inside_other (range.Attributes p r) wanted folded attributes rows others over = refl
inside_other (range.Alias j a) wanted folded attributes rows others over = refl
inside_other (range.Tuples p r) wanted folded attributes rows others over = absurd (cc)
inside_other (range.Values p r a) wanted folded attributes rows others over = absurd (cc)

abbrev with_rows : RelationValue → List Row → RelationValue
with_rows r rows = record r { rows = rows }

module _ (s : FlatSpec) (db : Text) (r : RelationValue) where
  part_each : (rows : List Row) → ranges_over_rows s.range ≡ true → part s db (with_rows r rows) ≡ flat_map (λ row. part s db (alone r row)) rows
  part_each rows over = one (goes_over s.range db r.name)
    where
      names : Row
      names = db ∷ r.name ∷ []

      one : (b : Bool) → cond b (rows_behind (db ∷ r.name ∷ []) (inside s.range s.wanted s.folded (r.attributes, rows))) [] ≡ flat_map (λ row. cond b (rows_behind (db ∷ r.name ∷ []) (inside s.range s.wanted s.folded (r.attributes, row ∷ []))) []) rows
      one true =
          ap (rows_behind (db ∷ r.name ∷ [])) (inside_each s.range s.wanted s.folded r.attributes rows over)
          ∙ mapped_each (λ row. (db ∷ r.name ∷ []) ++ row) (λ row. inside s.range s.wanted s.folded (r.attributes, row ∷ [])) rows
      one false = sym (none_each rows)

  part_other : (rows others : List Row) → ranges_over_rows s.range ≡ false → part s db (with_rows r rows) ≡ part s db (with_rows r others)
  part_other rows others over = ap (λ x. cond (goes_over s.range db r.name) (rows_behind (db ∷ r.name ∷ []) x) []) (inside_other s.range s.wanted s.folded r.attributes rows others over)

-- ---- without their marks they are the flat rows
rows_marked : (mark : Bool) (rows : List Row) → map (λ (m : Marked Text). m.0) (with_mark mark rows) ≡ rows
rows_marked mark [] = refl
rows_marked mark (row ∷ rows) = ap (λ r. row ∷ r) (rows_marked mark rows)

numbered_each : {Y : Type 0} (f : Row → List Y) (k : ℕ) (rows : List Row) → flat_map (λ (n : ℕ × Row). f n.1) (numbered k rows) ≡ flat_map f rows
numbered_each f k [] = refl
numbered_each f k (row ∷ rows) = ap (λ r. f row ++ r) (numbered_each f (k + 1) rows)

unmarked_part : (g : Change) (s : FlatSpec) (db : Text) (r : RelationValue) → map (λ (m : Marked Text). m.0) (marked_part g s db r) ≡ part s db r
unmarked_part g s db r = one (ranges_over_rows s.range) refl
  where
    one : (b : Bool) → ranges_over_rows s.range ≡ b
        → map (λ (m : Marked Text). m.0) (cond b (flat_map (λ (n : ℕ × Row). with_mark (is_changed g db r n.0) (part s db (alone r n.1))) (numbered 0 r.rows)) (with_mark false (part s db r))) ≡ part s db r
    one true over =
        mapped_each (λ (m : Marked Text). m.0) (λ (n : ℕ × Row). with_mark (is_changed g db r n.0) (part s db (alone r n.1))) (numbered 0 r.rows)
        ∙ same_each (λ n. Unit {0}) _ _ (λ (n : ℕ × Row) u. rows_marked (is_changed g db r n.0) (part s db (alone r n.1))) (numbered 0 r.rows) (all_unit (numbered 0 r.rows))
        ∙ numbered_each (λ row. part s db (alone r row)) 0 r.rows
        ∙ sym (part_each s db r r.rows over)
    one false over = rows_marked false (part s db r)

unmarked_whole : (g : Change) (s : FlatSpec) (d : DatabaseValue) → map (λ (m : Marked Text). m.0) (marked_whole g s d) ≡ whole s d
unmarked_whole g s d =
    map-append (λ (m : Marked Text). m.0) (with_mark false (own s.range d.name)) (flat_map (marked_part g s d.name) d.relations)
    ∙ ap (λ r. r ++ map (λ (m : Marked Text). m.0) (flat_map (marked_part g s d.name) d.relations)) (rows_marked false (own s.range d.name))
    ∙ ap (λ r. own s.range d.name ++ r) (
    mapped_each (λ (m : Marked Text). m.0) (marked_part g s d.name) d.relations
    ∙ same_each (λ r. Unit {0}) _ _ (λ (r : RelationValue) u. unmarked_part g s d.name r) d.relations (all_unit d.relations))

pub unmarked : (g : Change) (c : CatalogueValue) (s : FlatSpec) → map (λ (m : Marked Text). m.0) (marked_flat g c s) ≡ flat c s
unmarked g c s =
    mapped_each (λ (m : Marked Text). m.0) (marked_whole g s) c
    ∙ same_each (λ d. Unit {0}) _ _ (λ (d : DatabaseValue) u. unmarked_whole g s d) c (all_unit c)

pub all_rows : (g : Change) (c : CatalogueValue) (s : FlatSpec) → SameBag (cells_of any (marked_flat g c s)) (flat c s)
all_rows g c s f = weigh-cells any f (marked_flat g c s) ∙ sym (weigh-map f (λ (m : Marked Text). m.0) (marked_flat g c s)) ∙ ap (weigh f) (unmarked g c s)

-- ---- without the marked ones
same_number : (j k : ℕ) → j ≡ k → (j == k) ≡ true
same_number j k e = (Decides-eqb j k).1 e

other_number : (j k : ℕ) → j < k → (k == j) ≡ false
other_number j k h = grind (arith, nat_tests)

-- of numbered rows all but the one with a number
all_but_earlier : (h : Row → ℕ) (rows : List Row) (j s : ℕ) → j < s → weigh (λ (n : ℕ × Row). cond (not (n.0 == j)) (h n.1) 0) (numbered s rows) ≡ weigh h rows
all_but_earlier h [] j s less = refl
all_but_earlier h (row ∷ rows) j s less =
    let here : cond (not (s == j)) (h row) 0 ≡ h row = rw (other_number j s less) refl in
    omega (arith, here, all_but_earlier h rows j (s + 1) (omega arith))

all_but : (h : Row → ℕ) (rows : List Row) (i s : ℕ) → weigh (λ (n : ℕ × Row). cond (not (n.0 == s + i)) (h n.1) 0) (numbered s rows) ≡ weigh h (remove rows i)
all_but h [] zero s = refl
all_but h [] (suc i) s = refl
all_but h (row ∷ rows) zero s =
    let here : cond (not (s == s + 0)) (h row) 0 ≡ 0 = rw (same_number s (s + 0) (omega arith)) refl in
    omega (arith, here, all_but_earlier h rows (s + 0) (s + 1) (omega arith))
all_but h (row ∷ rows) (suc i) s =
    let here : cond (not (s == s + suc i)) (h row) 0 ≡ h row = rw (differs s i) refl in
    omega (arith, here, ap (λ j. weigh (λ (n : ℕ × Row). cond (not (n.0 == j)) (h n.1) 0) (numbered (s + 1) rows)) (shift s i) ∙ all_but h rows i (s + 1))
  where
    shift : (s i : ℕ) → s + suc i ≡ (s + 1) + i
    shift s i = omega arith

    differs : (s i : ℕ) → (s == s + suc i) ≡ false
    differs s i = grind (arith, nat_tests)

-- the relation without the changed row
abbrev less_changed : Change → Text → RelationValue → RelationValue
less_changed (Insert db rel row) name r = cond (text_eq db name && text_eq rel r.name) (with_rows r (remove r.rows (length r.rows - 1))) r
less_changed (Delete db rel row) name r = cond (text_eq db name && text_eq rel r.name) (with_rows r (remove r.rows (position_or_len (row_eq row) r.rows))) r
less_changed g name r = r

abbrev plain_weight : (Row → ℕ) → Marked Text → ℕ
plain_weight f m = cond (not m.1) (f m.0) 0

marked_weighs : (f : Row → ℕ) (mark : Bool) (rows : List Row) → weigh (plain_weight f) (with_mark mark rows) ≡ cond (not mark) (weigh f rows) 0
marked_weighs f true rows = weigh-map (plain_weight f) (λ row. (row, true)) rows ∙ nothing rows
  where
    nothing : (rows : List Row) → ◌≡◌ {A = ℕ} (weigh (λ (row : Row). 0) rows) 0
    nothing [] = refl
    nothing (row ∷ rows) = omega (arith, nothing rows)
marked_weighs f false rows = weigh-map (plain_weight f) (λ row. (row, false)) rows

module _ (f : Row → ℕ) (s : FlatSpec) (db : Text) (r : RelationValue) where
  -- where the row at a place is marked if a test holds, and no other
  rest_weighs : (test : Bool) (i : ℕ) → weigh (plain_weight f) (cond (ranges_over_rows s.range) (flat_map (λ (n : ℕ × Row). with_mark (test && (n.0 == i)) (part s db (alone r n.1))) (numbered 0 r.rows)) (with_mark false (part s db r)))
      ≡ weigh f (part s db (cond test (with_rows r (remove r.rows i)) r))
  rest_weighs test i = one (ranges_over_rows s.range) refl
    where
      h : Row → ℕ
      h = λ row. weigh f (part s db (alone r row))

      each : (rows : List Row) → ranges_over_rows s.range ≡ true → weigh f (part s db (with_rows r rows)) ≡ weigh h rows
      each rows over = ap (weigh f) (part_each s db r rows over) ∙ weigh-flat_map f (λ row. part s db (alone r row)) rows

      by_test : (test : Bool) → ranges_over_rows s.range ≡ true → weigh (λ (n : ℕ × Row). cond (not (test && (n.0 == i))) (h n.1) 0) (numbered 0 r.rows) ≡ weigh f (part s db (cond test (with_rows r (remove r.rows i)) r))
      by_test true over =
          ap (λ j. weigh (λ (n : ℕ × Row). cond (not (n.0 == j)) (h n.1) 0) (numbered 0 r.rows)) (plus i)
          ∙ all_but h r.rows i 0
          ∙ sym (each (remove r.rows i) over)
        where
          plus : (i : ℕ) → i ≡ 0 + i
          plus i = omega arith
      by_test false over = counted 0 r.rows ∙ sym (each r.rows over)
        where
          counted : (k : ℕ) (rows : List Row) → weigh (λ (n : ℕ × Row). h n.1) (numbered k rows) ≡ weigh h rows
          counted k [] = refl
          counted k (row ∷ rows) = omega (arith, counted (k + 1) rows)

      other : (test : Bool) → ranges_over_rows s.range ≡ false → part s db r ≡ part s db (cond test (with_rows r (remove r.rows i)) r)
      other true over = part_other s db r r.rows (remove r.rows i) over
      other false over = refl

      one : (b : Bool) → ranges_over_rows s.range ≡ b → weigh (plain_weight f) (cond b (flat_map (λ (n : ℕ × Row). with_mark (test && (n.0 == i)) (part s db (alone r n.1))) (numbered 0 r.rows)) (with_mark false (part s db r)))
          ≡ weigh f (part s db (cond test (with_rows r (remove r.rows i)) r))
      one true over =
          weigh-flat_map (plain_weight f) (λ (n : ℕ × Row). with_mark (test && (n.0 == i)) (part s db (alone r n.1))) (numbered 0 r.rows)
          ∙ weigh-same _ _ (λ (n : ℕ × Row). marked_weighs f (test && (n.0 == i)) (part s db (alone r n.1))) (numbered 0 r.rows)
          ∙ by_test test over
      one false over = marked_weighs f false (part s db r) ∙ ap (weigh f) (other test over)

plain_part : (g : Change) (up : Bool) → OfRow g up → (f : Row → ℕ) (s : FlatSpec) (db : Text) (r : RelationValue) → weigh (plain_weight f) (marked_part g s db r) ≡ weigh f (part s db (less_changed g db r))
plain_part _ _ (comes db rel row) f s name r = rest_weighs f s name r (text_eq db name && text_eq rel r.name) (length r.rows - 1)
plain_part _ _ (goes db rel row) f s name r = rest_weighs f s name r (text_eq db name && text_eq rel r.name) (position_or_len (row_eq row) r.rows)

-- what a database weighs, relation by relation
abbrev less_weight : Change → (Row → ℕ) → FlatSpec → DatabaseValue → ℕ
less_weight g f s d = weigh f (own s.range d.name) + weigh (λ (r : RelationValue). weigh f (part s d.name (less_changed g d.name r))) d.relations

whole_weighs : (f : Row → ℕ) (s : FlatSpec) (d : DatabaseValue) → weigh f (whole s d) ≡ weigh f (own s.range d.name) + weigh (λ (r : RelationValue). weigh f (part s d.name r)) d.relations
whole_weighs f s d = omega (arith, weigh-append f (own s.range d.name) (flat_map (part s d.name) d.relations), weigh-flat_map f (part s d.name) d.relations)

plain_whole : (g : Change) (up : Bool) → OfRow g up → (f : Row → ℕ) (s : FlatSpec) (d : DatabaseValue) → weigh (plain_weight f) (marked_whole g s d) ≡ less_weight g f s d
plain_whole g up one f s d =
    omega (
      arith,
      weigh-append (plain_weight f) (with_mark false (own s.range d.name)) (flat_map (marked_part g s d.name) d.relations),
      marked_weighs f false (own s.range d.name),
      weigh-flat_map (plain_weight f) (marked_part g s d.name) d.relations,
      weigh-same _ _ (λ (r : RelationValue). plain_part g up one f s d.name r) d.relations,
    )

plain_flat : (g : Change) (up : Bool) → OfRow g up → (c : CatalogueValue) (s : FlatSpec) (f : Row → ℕ) → weigh f (cells_of plain (marked_flat g c s)) ≡ weigh (less_weight g f s) c
plain_flat g up one c s f =
    weigh-cells plain f (marked_flat g c s)
    ∙ weigh-flat_map (plain_weight f) (marked_whole g s) c
    ∙ weigh-same _ _ (λ (d : DatabaseValue). plain_whole g up one f s d) c

last_removed : (rows : List Row) (row : Row) → remove (rows ++ row ∷ []) (length (rows ++ row ∷ []) - 1) ≡ rows
last_removed [] row = refl
last_removed (x ∷ rows) row = ap (λ i. remove (x ∷ (rows ++ row ∷ [])) i) (one_less rows) ∙ ap (λ r. x ∷ r) (last_removed rows row)
  where
    some : (rows : List Row) → 0 < length (rows ++ row ∷ [])
    some [] = omega arith
    some (y ∷ rows) = omega arith

    one_less : (rows : List Row) → suc (length (rows ++ row ∷ [])) - 1 ≡ suc (length (rows ++ row ∷ []) - 1)
    one_less rows = omega (arith, some rows)

-- after an insert the others are the flat rows before it
pub insert_plain : (c : CatalogueValue) (db rel : Text) (row : Row) (s : FlatSpec) → SameBag (cells_of plain (marked_flat (Insert db rel row) (after c (Insert db rel row)) s)) (flat c s)
insert_plain c db rel row s f =
    plain_flat (Insert db rel row) true (comes db rel row) (after c (Insert db rel row)) s f
    ∙ weigh-map (less_weight (Insert db rel row) f s) (λ (d : DatabaseValue). if text_eq db d.name then at_relation_in rel (with_row row) d else d) c
    ∙ weigh-same _ _ each c
    ∙ sym (weigh-flat_map f (whole s) c)
  where
    relation : (d : DatabaseValue) (r : RelationValue) (b : Bool) → text_eq rel r.name ≡ b → weigh f (part s d.name (cond (text_eq rel (cond b (with_row row r) r).name) (with_rows (cond b (with_row row r) r) (remove (cond b (with_row row r) r).rows (length (cond b (with_row row r) r).rows - 1))) (cond b (with_row row r) r))) ≡ weigh f (part s d.name r)
    relation d r true is = rw is (ap (λ rows. weigh f (part s d.name (with_rows r rows))) (last_removed r.rows row))
    relation d r false is = rw is refl

    database : (d : DatabaseValue) (b : Bool) → text_eq db d.name ≡ b → less_weight (Insert db rel row) f s (if b then at_relation_in rel (with_row row) d else d) ≡ weigh f (own s.range d.name) + weigh (λ (r : RelationValue). weigh f (part s d.name r)) d.relations
    database d true is =
        rw is (
        ap (λ n. weigh f (own s.range d.name) + n) (
        weigh-map _ (λ (r : RelationValue). if text_eq rel r.name then with_row row r else r) d.relations
        ∙ weigh-same _ _ (λ (r : RelationValue). relation d r (text_eq rel r.name) refl) d.relations))
    database d false is = rw is refl

    each : (d : DatabaseValue) → less_weight (Insert db rel row) f s (if text_eq db d.name then at_relation_in rel (with_row row) d else d) ≡ weigh f (whole s d)
    each d = database d (text_eq db d.name) refl ∙ sym (whole_weighs f s d)

-- before a delete the others are the flat rows after it
pub delete_plain : (c : CatalogueValue) (db rel : Text) (row : Row) (s : FlatSpec) → SameBag (cells_of plain (marked_flat (Delete db rel row) c s)) (flat (after c (Delete db rel row)) s)
delete_plain c db rel row s f =
    plain_flat (Delete db rel row) false (goes db rel row) c s f
    ∙ sym (
    weigh-flat_map f (whole s) (after c (Delete db rel row))
    ∙ weigh-map (λ (d : DatabaseValue). weigh f (whole s d)) (λ (d : DatabaseValue). if text_eq db d.name then at_relation_in rel (less_row row) d else d) c
    ∙ weigh-same _ _ each c)
  where
    relation : (d : DatabaseValue) (r : RelationValue) (b : Bool) → text_eq rel r.name ≡ b → weigh f (part s d.name (cond b (less_row row r) r)) ≡ weigh f (part s d.name (cond b (with_rows r (remove r.rows (position_or_len (row_eq row) r.rows))) r))
    relation d r true is = refl
    relation d r false is = refl

    database : (d : DatabaseValue) (b : Bool) → text_eq db d.name ≡ b → weigh f (own s.range d.name) + weigh (λ (r : RelationValue). weigh f (part s d.name r)) (if b then at_relation_in rel (less_row row) d else d).relations ≡ less_weight (Delete db rel row) f s d
    database d true is =
        rw is (
        ap (λ n. weigh f (own s.range d.name) + n) (
        weigh-map _ (λ (r : RelationValue). if text_eq rel r.name then less_row row r else r) d.relations
        ∙ weigh-same _ _ (λ (r : RelationValue). relation d r (text_eq rel r.name) refl) d.relations))
    database d false is = rw is refl

    named : (d : DatabaseValue) (b : Bool) → (if b then at_relation_in rel (less_row row) d else d).name ≡ d.name
    named d true = refl
    named d false = refl

    each : (d : DatabaseValue) → weigh f (whole s (if text_eq db d.name then at_relation_in rel (less_row row) d else d)) ≡ less_weight (Delete db rel row) f s d
    each d =
        whole_weighs f s (if text_eq db d.name then at_relation_in rel (less_row row) d else d)
        ∙ ap (λ (n : Text). weigh f (own s.range n) + weigh (λ (r : RelationValue). weigh f (part s n r)) (if text_eq db d.name then at_relation_in rel (less_row row) d else d).relations) (named d (text_eq db d.name))
        ∙ database d (text_eq db d.name) refl
