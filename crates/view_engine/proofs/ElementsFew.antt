-- How many elements a declaration has over a sound catalogue.
use Rattle.std.proofs.Common.{◌≡◌, ◌≤◌, ◌+◌, ℕ, suc, List, [], ◌∷◌, length, map, true, false, cond, refl, sym, arith, subst, Bool, Option, Some, None}
use Rattle.std.specs.Prelude.{find, filter_map, option_and_then, option_to_list, sum_by}
use Rattle.std.specs.List.{AllByRecursion, range_with_len, cons_option}
use Rattle.std.proofs.lemmas.List.{length-map}
use Rattle.std.proofs.lemmas.List.FromFn.{length-range_with_len}
use Rattle.std.proofs.lemmas.List.Sums.{sum_by-cons}
use Rattle.ss_text.specs.Texts.{Text, text_eq}
use Rattle.schema_model.specs.Catalogue.{RelationValue, DatabaseValue, CatalogueValue, database_of, relation_in, rows_in, row_count}
use Rattle.schema_model.specs.Sound.{IsRelation, IsDatabase, IsSound}
use Rattle.view_def.specs.declared.typed.Place.{Place}
use Rattle.view_def.specs.declared.typed.Range.{Range}
use Rattle.view_def.specs.declared.typed.Range.TheVariants as range
use Rattle.view_def.specs.Profile.{ranges_over_rows}
use Rattle.view_meaning.specs.Elements.{Valuation, A_text, A_row, place_text, database_at, relation_at, cell_under, cell_at, elements, ◌>>=◌}
use Rattle.view_engine.proofs.Products.{bound}
use Rattle.schema_model.specs.Limits.{most_rows}

-- what is found among things of which each is P, and its part of their sum
found_here : {A : Type 0} (P : A → Type 0) (f : A → ℕ) (b : Bool) (y x : A) (o : Option A) (n : ℕ) → P y → (o ≡ Some x → P x × (f x ≤ n)) → cond b (Some y) o ≡ Some x → P x × (f x ≤ f y + n)
found_here P f true y x o n here rest e =
    let same : y ≡ x = cc in
    let less : f y ≤ f y + n = omega arith in
    (subst P same here, subst (λ x. f x ≤ f y + n) same less)
found_here P f false y x o n here rest e = let r = rest e in (r.0, omega (arith, r.1))

found : {A : Type 0} (P : A → Type 0) (f : A → ℕ) (p : A → Bool) (xs : List A) (x : A) → AllByRecursion P xs → find p xs ≡ Some x → P x × (f x ≤ sum_by f xs)
found P f p [] x each h = absurd (cc)
found P f p (y ∷ xs) x each h =
    subst (λ n. P x × (f x ≤ n)) (sym (sum_by-cons f y xs)) (found_here P f (p y) y x (find p xs) (sum_by f xs) each.0 (found P f p xs x each.1) h)

-- what comes of values that may not be there
option_few : {B : Type 0} (o : Option B) → length (option_to_list o) ≤ 1
option_few None = omega arith
option_few (Some y) = omega arith

one_more : {B : Type 0} (o : Option B) (ys : List B) (n : ℕ) → length ys ≤ n → length (cons_option o ys) ≤ suc n
one_more None ys n h = omega arith
one_more (Some y) ys n h = omega arith

filtered : {A B : Type 0} (f : A → Option B) (xs : List A) → length (filter_map f xs) ≤ length xs
filtered f [] = omega arith
filtered f (x ∷ xs) = one_more (f x) (filter_map f xs) (length xs) (filtered f xs)

given_few : {A B : Type 0} (o : Option A) (f : A → List B) (n : ℕ) → ((x : A) → o ≡ Some x → length (f x) ≤ n) → length (o >>= f) ≤ n
given_few None f n h = omega arith
given_few (Some x) f n h = h x refl

both_there : {A B : Type 0} (o : Option A) (g : A → Option B) (y : B) → option_and_then g o ≡ Some y → (x : A) × (o ≡ Some x) × (g x ≡ Some y)
both_there None g y e = absurd (cc)
both_there (Some x) g y e = (x, refl, e)

module _ (c : CatalogueValue) (sound : IsSound c) (v : Valuation) where
  abbrev IsOne : RelationValue → Type 0
  IsOne r = IsRelation r × (length r.rows ≤ most_rows)

  one_database : (p : Place) (d : DatabaseValue) → database_at c v p ≡ Some d → IsDatabase d × (rows_in d ≤ row_count c)
  one_database p d there =
      let db = both_there (place_text v p) (database_of c) d there in
      found IsDatabase rows_in (λ (d : DatabaseValue). text_eq db.0 d.name) c d sound.databases db.2

  one_relation : (p q : Place) (r : RelationValue) → relation_at c v p q ≡ Some r → IsOne r
  one_relation p q r there =
      let d = both_there (database_at c v p) (λ (d : DatabaseValue). option_and_then (λ (name : Text). relation_in name d) (place_text v q)) r there in
      let rel = both_there (place_text v q) (λ (name : Text). relation_in name d.0) r d.2 in
      let of_db = one_database p d.0 d.1 in
      let of_rel = found IsRelation (λ (r : RelationValue). length r.rows) (λ (r : RelationValue). text_eq rel.0 r.name) d.0.relations r of_db.0.relations rel.2 in
      (of_rel.0, omega (arith, of_db.1, of_rel.1, sound.rows))

  pub elements_few : (d : Range) → length (elements c v d) ≤ bound most_rows 4000 (ranges_over_rows d)
  elements_few range.Databases = omega (arith, length-map c (λ (d : DatabaseValue). A_text d.name), sound.few)
  elements_few (range.Relations p) =
      given_few (database_at c v p) (λ (d : DatabaseValue). map (λ (r : RelationValue). A_text r.name) d.relations) 4000 (λ d there.
      omega (arith, length-map d.relations (λ (r : RelationValue). A_text r.name), (one_database p d there).0.few))
  elements_few (range.Attributes p q) =
      given_few (relation_at c v p q) (λ (r : RelationValue). map A_text r.attributes) 4000 (λ r there.
      omega (arith, length-map r.attributes A_text, (one_relation p q r there).0.header.few))
  elements_few (range.Tuples p q) =
      given_few (relation_at c v p q) (λ (r : RelationValue). map (A_row r) (range_with_len 0 (length r.rows))) most_rows (λ r there.
      omega (arith, length-map (range_with_len 0 (length r.rows)) (A_row r), length-range_with_len 0 (length r.rows), (one_relation p q r there).1))
  elements_few (range.Values p q a) =
      given_few (relation_at c v p q) (λ (r : RelationValue). place_text v a >>= λ (name : Text). map A_text (filter_map (cell_under r.attributes name) r.rows)) most_rows (λ r there.
      given_few (place_text v a) (λ (name : Text). map A_text (filter_map (cell_under r.attributes name) r.rows)) most_rows (λ name at.
      omega (arith, length-map (filter_map (cell_under r.attributes name) r.rows) A_text, filtered (cell_under r.attributes name) r.rows, (one_relation p q r there).1)))
  elements_few (range.Alias k a) = omega (arith, length-map (option_to_list (cell_at v k a)) A_text, option_few (cell_at v k a))
