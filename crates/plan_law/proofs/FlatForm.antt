-- What the relations of a catalogue contribute, kind by kind.
use Rattle.std.proofs.Common.{◌≡◌, inl, inr, ℕ, ◌+◌, suc, List, [], ◌∷◌, ◌++◌, length, map, filter, Bool, true, false, ◌&&◌, cond, refl, arith, ap, sym, ◌∙◌, Option, Some, None, append-nil}
use Rattle.std.specs.Prelude.{option_to_list, flat_map, zip, position, slice_index_or}
use Rattle.std.specs.List.{slice_get, AllByRecursion}
use Rattle.std.specs.Option.{option_and_then, option_map}
use Rattle.std.proofs.lemmas.List.Concat.{flat_map_single}
use Rattle.ss_text.specs.Texts.{Text, Row, text_eq, is_in}
use Rattle.schema_model.specs.Catalogue.{RelationValue, DatabaseValue, CatalogueValue}
use Rattle.schema_model.specs.Sound.{IsRelation, IsDatabase, IsSound}
use Rattle.plan_law.specs.Kinds.{Place, Range}
use Rattle.plan_law.specs.Kinds.place
use Rattle.plan_law.specs.Kinds.range
use Rattle.view_meaning.specs.Elements.{cell_under}
use Rattle.unite_op.specs.NamedThings.{rows_behind}
use Rattle.fold_op.specs.Cells.{has_all, place_of, places_of, picked}
use Rattle.fold_op.specs.Flat.{pick_value, entries, fold_value}
use Rattle.schema_delta.specs.declared.spec.FlatSpec.{FlatSpec}
use Rattle.schema_delta.specs.Flat.{keeps, values_of, sheet_of, flat}
use Rattle.plan_law.proofs.Columns.{Has, texts_equal}
use Rattle.plan_law.proofs.Sums.{Apart, apart_distinct, position_cons}
use Rattle.plan_law.proofs.FlatRows.{kept_databases, kept_relations, of_relations, cells_under, fields, per_field, tuple_rows, value_rows, attribute_rows, flat_of}
use Rattle.operator_law.specs.Bags.{weigh}

pub none_each : {X Y : Type 0} (xs : List X) → ◌≡◌ {A = List Y} (flat_map (λ x. []) xs) []
none_each [] = refl
none_each (x ∷ xs) = none_each xs

-- a test in front of each is a filter
tested_each : {X Y : Type 0} (p : X → Bool) (f : X → List Y) (xs : List X) → flat_map (λ x. cond (p x) (f x) []) xs ≡ flat_map f (filter p xs)
tested_each p f [] = refl
tested_each p f (x ∷ xs) = one (p x) (tested_each p f xs)
  where
    one : (b : Bool) → flat_map (λ x. cond (p x) (f x) []) xs ≡ flat_map f (filter p xs) → cond b (f x) [] ++ flat_map (λ x. cond (p x) (f x) []) xs ≡ flat_map f (cond b (x ∷ filter p xs) (filter p xs))
    one true e = ap (λ r. f x ++ r) e
    one false e = e

pub same_each : {X Y : Type 0} (P : X → Type 0) (f g : X → List Y) → ((x : X) → P x → f x ≡ g x) → (xs : List X) → AllByRecursion P xs → flat_map f xs ≡ flat_map g xs
same_each P f g same [] all = refl
same_each P f g same (x ∷ xs) all = ap (λ r. r ++ flat_map f xs) (same x all.0) ∙ ap (λ r. g x ++ r) (same_each P f g same xs all.1)

pub all_unit : {X : Type 0} (xs : List X) → AllByRecursion (λ x. Unit {0}) xs
all_unit [] = tt
all_unit (x ∷ xs) = (tt, all_unit xs)

-- the cell behind the first
at_next : (s : Text) (row : Row) (n : ℕ) → slice_index_or (s ∷ row) (1 + n) [] ≡ slice_index_or row n []
at_next s row n = ap (λ i. slice_index_or (s ∷ row) i []) (one_plus n)
  where
    one_plus : (n : ℕ) → 1 + n ≡ suc n
    one_plus n = omega arith

-- the cell under an attribute
cell_found : (a : Text) (attributes row : Row) → length row ≡ length attributes → cell_under attributes a row ≡ cond (is_in a attributes) (Some (slice_index_or row (place_of attributes a) [])) None
cell_found a [] row e = refl
cell_found a (b ∷ more) [] e = absurd (omega arith)
cell_found a (b ∷ more) (s ∷ row) e =
    ap (option_and_then (slice_get (s ∷ row))) (position_cons (text_eq a) b more) ∙ one (text_eq a b) refl (cell_found a more row (omega arith))
  where
    later : (o : Option ℕ) → option_and_then (slice_get (s ∷ row)) (option_map suc o) ≡ option_and_then (slice_get row) o
    later None = refl
    later (Some i) = refl

    one : (t : Bool) → text_eq a b ≡ t → cell_under more a row ≡ cond (is_in a more) (Some (slice_index_or row (place_of more a) [])) None
        → option_and_then (slice_get (s ∷ row)) (cond t (Some 0) (option_map suc (position (text_eq a) more))) ≡ cond (is_in a (b ∷ more)) (Some (slice_index_or (s ∷ row) (place_of (b ∷ more) a) [])) None
    one true is rest = rw is refl
    one false is rest = rw is (later (position (text_eq a) more) ∙ rest ∙ ap (λ (t : Text). cond (is_in a more) (Some t) None) (sym (at_next s row (place_of more a))))

-- the wanted cells
cells_found : (attributes row wanted : Row) → length row ≡ length attributes → cells_under attributes wanted row ≡ cond (has_all wanted attributes) (Some (picked wanted attributes row)) None
cells_found attributes row [] e = refl
cells_found attributes row (a ∷ more) e =
    ap (λ (o : Option Text). option_and_then (λ cell. option_map (λ cells. cell ∷ cells) (cells_under attributes more row)) o) (cell_found a attributes row e)
    ∙ one (is_in a attributes) (has_all more attributes) (cells_found attributes row more e)
  where
    one : (b h : Bool) → cells_under attributes more row ≡ cond h (Some (picked more attributes row)) None
        → option_and_then (λ (cell : Text). option_map (λ (cells : Row). cell ∷ cells) (cells_under attributes more row)) (cond b (Some (slice_index_or row (place_of attributes a) [])) None)
        ≡ cond (b && h) (Some (slice_index_or row (place_of attributes a) [] ∷ picked more attributes row)) None
    one true true rest = rw rest refl
    one true false rest = rw rest refl
    one false h rest = refl

module _ (r : RelationValue) (ok : IsRelation r) where
  -- what a row of a tuple variable gives
  given_by : Bool → Row → Bool → Row → List Row
  given_by folded wanted has row = cond has (per_field folded (fields r row) (picked wanted r.attributes row)) []

  row_gives : (folded : Bool) (wanted row : Row) → length row ≡ length r.attributes
      → flat_map (per_field folded (fields r row)) (option_to_list (cells_under r.attributes wanted row)) ≡ given_by folded wanted (has_all wanted r.attributes) row
  unfolding given_by
  row_gives folded wanted row e =
      ap (λ (o : Option Row). flat_map (per_field folded (fields r row)) (option_to_list o)) (cells_found r.attributes row wanted e)
      ∙ one (has_all wanted r.attributes)
    where
      one : (h : Bool) → flat_map (per_field folded (fields r row)) (option_to_list (cond h (Some (picked wanted r.attributes row)) None)) ≡ cond h (per_field folded (fields r row) (picked wanted r.attributes row)) []
      one true = append-nil (per_field folded (fields r row) (picked wanted r.attributes row))
      one false = refl

  all_given : (folded : Bool) (wanted : Row) → flat_map (given_by folded wanted (has_all wanted r.attributes)) r.rows ≡ cond folded (fold_value wanted (sheet_of r)) (pick_value wanted (sheet_of r))
  unfolding given_by fold_value
  all_given folded wanted = by_test folded (has_all wanted r.attributes)
    where
      by_test : (folded h : Bool) → flat_map (λ row. cond h (per_field folded (fields r row) (picked wanted r.attributes row)) []) r.rows
          ≡ cond folded (cond h (flat_map (entries (places_of wanted r.attributes) r.attributes) r.rows) []) (cond h (map (picked wanted r.attributes) r.rows) [])
      by_test true true = refl
      by_test false true = flat_map_single (picked wanted r.attributes) r.rows
      by_test true false = none_each r.rows
      by_test false false = none_each r.rows

  pub tuple_is : (folded : Bool) (wanted : Row) → cond folded (fold_value wanted (sheet_of r)) (pick_value wanted (sheet_of r)) ≡ tuple_rows wanted folded r
  tuple_is folded wanted =
      sym (
      same_each (λ (row : Row). length row ≡ length r.attributes) _ (given_by folded wanted (has_all wanted r.attributes)) (λ row e. row_gives folded wanted row e) r.rows ok.fits
      ∙ all_given folded wanted)

  -- the field of an attribute
  no_field : (a : Text) (more row : Row) → ((y : Text) → Has more y → text_eq a y ≡ false) → filter (λ (f : Text × Text). text_eq a f.0) (zip more row) ≡ []
  no_field a [] row none = refl
  no_field a (b ∷ more) [] none = refl
  no_field a (b ∷ more) (s ∷ row) none = rw (none b (inl refl)) (no_field a more row (λ y m. none y (inr m)))

  field_found : (a : Text) (attributes row : Row) → Apart attributes → length row ≡ length attributes
      → filter (λ (f : Text × Text). text_eq a f.0) (zip attributes row) ≡ cond (is_in a attributes) ((a, slice_index_or row (place_of attributes a) []) ∷ []) []
  field_found a [] row apart e = refl
  field_found a (b ∷ more) [] apart e = absurd (omega arith)
  field_found a (b ∷ more) (s ∷ row) apart e = one (text_eq a b) refl (field_found a more row apart.1 (omega arith))
    where
      one : (t : Bool) → text_eq a b ≡ t → filter (λ (f : Text × Text). text_eq a f.0) (zip more row) ≡ cond (is_in a more) ((a, slice_index_or row (place_of more a) []) ∷ []) []
          → cond t ((b, s) ∷ filter (λ (f : Text × Text). text_eq a f.0) (zip more row)) (filter (λ (f : Text × Text). text_eq a f.0) (zip more row)) ≡ cond (is_in a (b ∷ more)) ((a, slice_index_or (s ∷ row) (place_of (b ∷ more) a) []) ∷ []) []
      one true is rest =
          let same : a ≡ b = texts_equal a b is in
          rw is (ap (λ r. (b, s) ∷ r) (no_field a more row (λ y m. ap (λ t. text_eq t y) same ∙ apart.0 y m)) ∙ ap (λ t. (t, s) ∷ []) (sym same))
      one false is rest = rw is (rest ∙ ap (λ (t : Text). cond (is_in a more) ((a, t) ∷ []) []) (sym (at_next s row (place_of more a))))

  all_fields : (fs : List (Text × Text)) → map (λ (f : Text × Text). f.0 ∷ f.1 ∷ []) (filter (λ (f : Text × Text). true) fs) ≡ map (λ (f : Text × Text). f.0 ∷ f.1 ∷ []) fs
  all_fields [] = refl
  all_fields (f ∷ fs) = ap (λ r. (f.0 ∷ f.1 ∷ []) ∷ r) (all_fields fs)

  named : (a : Text) (h : Bool) (rows : List Row) → rows_behind (a ∷ []) (cond (h && true) (map (picked (a ∷ []) r.attributes) rows) [])
      ≡ flat_map (λ row. map (λ (f : Text × Text). f.0 ∷ f.1 ∷ []) (cond h ((a, slice_index_or row (place_of r.attributes a) []) ∷ []) [])) rows
  named a true [] = refl
  named a true (row ∷ rows) = ap (λ z. (a ∷ slice_index_or row (place_of r.attributes a) [] ∷ []) ∷ z) (named a true rows)
  named a false [] = refl
  named a false (row ∷ rows) = named a false rows

  pub values_is : (a : Place) → values_of a (sheet_of r) ≡ value_rows a r
  unfolding fold_value
  values_is (place.Fixed a) =
      named a (is_in a r.attributes) r.rows
      ∙ sym (same_each (λ (row : Row). length row ≡ length r.attributes) _ _ (λ row e. ap (map (λ (f : Text × Text). f.0 ∷ f.1 ∷ [])) (field_found a r.attributes row (apart_distinct r.attributes ok.header.distinct) e)) r.rows ok.fits)
  values_is (place.Var k) = sym (same_each (λ row. Unit {0}) _ _ (λ row u. all_fields (zip r.attributes row)) r.rows (all_unit r.rows))

-- over all relations
module _ (p q : Place) (rows_of rows_of' : RelationValue → List Row) (same : (r : RelationValue) → IsRelation r → rows_of r ≡ rows_of' r) where
  abbrev of_relation : DatabaseValue → RelationValue → List Row
  of_relation d r = map (λ row. d.name ∷ r.name ∷ row) (rows_of' r)

  in_database : (d : DatabaseValue) → IsDatabase d → (b : Bool)
      → flat_map (λ (r : RelationValue). cond (b && keeps q r.name) (rows_behind (d.name ∷ r.name ∷ []) (rows_of r)) []) d.relations ≡ cond b (flat_map (of_relation d) (kept_relations q d)) []
  in_database d ok true =
      same_each IsRelation _ _ (λ r h. ap (λ rows. cond (keeps q r.name) (rows_behind (d.name ∷ r.name ∷ []) rows) []) (same r h)) d.relations ok.relations
      ∙ tested_each (λ (r : RelationValue). keeps q r.name) (of_relation d) d.relations
  in_database d ok false = none_each d.relations

  relations_are : (c : CatalogueValue) → AllByRecursion IsDatabase c
      → flat_map (λ (d : DatabaseValue). flat_map (λ (r : RelationValue). cond (keeps p d.name && keeps q r.name) (rows_behind (d.name ∷ r.name ∷ []) (rows_of r)) []) d.relations) c ≡ of_relations c p q rows_of'
  relations_are c ok =
      same_each IsDatabase _ _ (λ d h. in_database d h (keeps p d.name)) c ok
      ∙ tested_each (λ (d : DatabaseValue). keeps p d.name) (λ (d : DatabaseValue). flat_map (of_relation d) (kept_relations q d)) c

databases_are : (c : CatalogueValue) → flat_map (λ (d : DatabaseValue). (d.name ∷ []) ∷ flat_map (λ (r : RelationValue). []) d.relations) c ≡ map (λ (d : DatabaseValue). d.name ∷ []) c
databases_are [] = refl
databases_are (d ∷ c) =
    ap (λ z. (d.name ∷ []) ∷ (z ++ flat_map (λ (d : DatabaseValue). (d.name ∷ []) ∷ flat_map (λ (r : RelationValue). []) d.relations) c)) (none_each d.relations)
    ∙ ap (λ z. (d.name ∷ []) ∷ z) (databases_are c)

nothing_there : (c : CatalogueValue) → ◌≡◌ {A = List Row} (flat_map (λ (d : DatabaseValue). flat_map (λ (r : RelationValue). []) d.relations) c) []
nothing_there [] = refl
nothing_there (d ∷ c) = ap (λ z. z ++ flat_map (λ (d : DatabaseValue). flat_map (λ (r : RelationValue). []) d.relations) c) (none_each d.relations) ∙ nothing_there c

names_are : (p : Place) (c : CatalogueValue) → flat_map (λ (d : DatabaseValue). flat_map (λ (r : RelationValue). cond (keeps p d.name) ((d.name ∷ r.name ∷ []) ∷ []) []) d.relations) c
    ≡ flat_map (λ (d : DatabaseValue). map (λ (r : RelationValue). d.name ∷ r.name ∷ []) d.relations) (kept_databases p c)
names_are p c =
    same_each (λ d. Unit {0}) _ _ (λ (d : DatabaseValue) u. one d (keeps p d.name)) c (all_unit c)
    ∙ tested_each (λ (d : DatabaseValue). keeps p d.name) (λ (d : DatabaseValue). map (λ (r : RelationValue). d.name ∷ r.name ∷ []) d.relations) c
  where
    one : (d : DatabaseValue) (b : Bool) → flat_map (λ (r : RelationValue). cond b ((d.name ∷ r.name ∷ []) ∷ []) []) d.relations ≡ cond b (map (λ (r : RelationValue). d.name ∷ r.name ∷ []) d.relations) []
    one d true = flat_map_single (λ (r : RelationValue). d.name ∷ r.name ∷ []) d.relations
    one d false = none_each d.relations

flat_is : (c : CatalogueValue) → IsSound c → (d : Range) (wanted : Row) (folded : Bool) → flat c (record { range = d; wanted = wanted; folded = folded }) ≡ flat_of c d wanted folded
flat_is c sound range.Databases wanted folded = databases_are c
flat_is c sound (range.Relations p) wanted folded = names_are p c
flat_is c sound (range.Attributes p q) wanted folded = relations_are p q attribute_rows attribute_rows (λ r ok. refl) c sound.databases
flat_is c sound (range.Tuples p q) wanted folded = relations_are p q (λ r. cond folded (fold_value wanted (sheet_of r)) (pick_value wanted (sheet_of r))) (tuple_rows wanted folded) (λ r ok. tuple_is r ok folded wanted) c sound.databases
flat_is c sound (range.Values p q a) wanted folded = relations_are p q (λ r. values_of a (sheet_of r)) (value_rows a) (λ r ok. values_is r ok a) c sound.databases
flat_is c sound (range.Alias j a) wanted folded = nothing_there c

pub flat_weighs : (c : CatalogueValue) → IsSound c → (s : FlatSpec) (f : Row → ℕ) → weigh f (flat c s) ≡ weigh f (flat_of c s.range s.wanted s.folded)
flat_weighs c sound s f = ap (weigh f) (flat_is c sound s.range s.wanted s.folded)
