-- The marked combinations of a view are the marked rows of its plan.
use Rattle.std.proofs.Common.{◌≡◌, ℕ, ◌+◌, suc, List, [], ◌∷◌, ◌++◌, length, Bool, true, false, ◌&&◌, ◌||◌, cond, filter, map, refl, arith, ap, sym, ◌∙◌}
use Rattle.std.specs.Prelude.{zip}
use Rattle.std.specs.List.{AllByRecursion}
use Rattle.std.proofs.lemmas.List.{map-append}
use Rattle.std.proofs.lemmas.Slice.Zip.{seconds-zip, firsts-zip}
use Rattle.std.proofs.Math.Nat.{add-zero}
use Rattle.ss_text.specs.Texts.{Text}
use Rattle.plan_law.specs.Kinds.{Term, Range}
use Rattle.plan_law.specs.Kinds.range
use Rattle.view_def.specs.Query.{Query}
use Rattle.plan_law.specs.Columns.{Column, Combo, header, is_tested, terms_over}
use Rattle.plan_law.specs.Links.{own_holds, keys_hold}
use Rattle.plan_law.specs.PlanRows.{texts}
use Rattle.schema_delta.specs.declared.spec.FlatSpec.{FlatSpec}
use Rattle.plan_law.specs.Columns.{spec_of}
use Rattle.plan_law.specs.Touched.{Marked, marked_pairs, count_marked, both_tested, touched, under, marked_bases}
use Rattle.plan_law.proofs.KeyLaws.{tested_keys}
use Rattle.plan_law.proofs.Widths.{all_flat_map_of, all_map_of}
use Rattle.plan_law.proofs.PlainRows.{zipped, sizes, IsUnder}
use Rattle.plan_law.proofs.PlanLists.{start_tested}
use Rattle.plan_law.proofs.TouchedLaws.{weigh-pairs}
use Rattle.plan_law.proofs.MarkedCombos.{touched_from, touched_is}
use Rattle.plan_law.proofs.MarkedWalk.{Marks, later_rows}
use Rattle.operator_law.specs.Bags.{weigh}
use Rattle.join_delta.specs.Joined.{PairTest}
use Rattle.operator_law.proofs.Weights.{weigh-filter, weigh-map, weigh-same_where}

abbrev pub Combos : Type 0
Combos = List (Marked Column)

-- the rows are those of the combinations, with the same marks, as bags
abbrev SameMarks : Combos → Marks → Type 0
SameMarks xs rows = (f : Marked Text → ℕ) → weigh f rows ≡ weigh (λ (z : Marked Column). f (texts z.0, z.1)) xs

-- flat rows with marks that pass the tests of the row alone
abbrev pub own_marks : Query → List Term → List Term → Marks → Marks
own_marks q h d rows = filter (λ (r : Marked Text). own_holds q h d r.0) rows

abbrev AllUnder : Query → List Term → Combos → Type 0
AllUnder q h xs = AllByRecursion (λ (z : Marked Column). IsUnder q h z.0) xs

abbrev AllOver : List Term → Combos → Type 0
AllOver h xs = AllByRecursion (λ (z : Marked Column). terms_over z.0 ≡ h) xs

abbrev HaveWidth : List Term → Marks → Type 0
HaveWidth d rows = AllByRecursion (λ (r : Marked Text). length r.0 ≡ length d) rows

module _ (q : Query) (h d : List Term) where
  split : (a b : Bool) (n : ℕ) → cond (a && b) n 0 ≡ cond a (cond b n 0) 0
  split true b n = refl
  split false b n = refl

  pair_same : (z : Marked Column) (r : Marked Text) → IsUnder q h z.0 → length r.0 ≡ length d → (f : Marked Text → ℕ)
      → cond (is_tested q (z.0 ++ zip d r.0)) (f (texts (z.0 ++ zip d r.0), z.1 || r.1)) 0 ≡ cond (own_holds q h d r.0) (cond (keys_hold q h d (texts z.0) r.0) (f (texts z.0 ++ r.0, z.1 || r.1)) 0) 0
  pair_same z r u wide f =
      let e = zipped h z.0 u.terms in
      let text : texts (z.0 ++ zip d r.0) ≡ texts z.0 ++ r.0 = map-append (λ (c : Column). c.1) z.0 (zip d r.0) ∙ ap (λ y. texts z.0 ++ y) (seconds-zip d r.0 wide) in
      ap (λ y. cond (is_tested q (z.0 ++ zip d r.0)) (f (y, z.1 || r.1)) 0) text
      ∙ ap (λ (y : Combo). cond (is_tested q (y ++ zip d r.0)) (f (texts z.0 ++ r.0, z.1 || r.1)) 0) (sym e)
      ∙ ap (λ b. cond b (f (texts z.0 ++ r.0, z.1 || r.1)) 0) (tested_keys q h d (texts z.0) r.0 (sizes h z.0 u.terms) wide (ap (is_tested q) e ∙ u.tested))
      ∙ split (own_holds q h d r.0) (keys_hold q h d (texts z.0) r.0) (f (texts z.0 ++ r.0, z.1 || r.1))

  same_stage : (xs : Combos) (rows flat : Marks) → AllUnder q h xs → HaveWidth d flat → SameMarks xs rows
      → SameMarks (marked_pairs (both_tested q) xs (under d flat)) (marked_pairs (keys_hold q h d) rows (own_marks q h d flat))
  same_stage xs rows flat unders wide same f =
      weigh-pairs (keys_hold q h d) f rows (own_marks q h d flat)
      ∙ same (λ (x : Marked Text). weigh (λ (y : Marked Text). cond (keys_hold q h d x.0 y.0) (f (x.0 ++ y.0, x.1 || y.1)) 0) (own_marks q h d flat))
      ∙ weigh-same_where (λ (z : Marked Column). IsUnder q h z.0) _ _ (λ (z : Marked Column) u.
      weigh-filter _ (λ (r : Marked Text). own_holds q h d r.0) flat
      ∙ sym (
      weigh-map _ (λ (r : Marked Text). (zip d r.0, r.1)) flat
      ∙ weigh-same_where (λ (r : Marked Text). length r.0 ≡ length d) _ _ (λ (r : Marked Text) w. pair_same z r u w f) flat wide)) xs unders
      ∙ sym (weigh-pairs (both_tested q) (λ (z : Marked Column). f (texts z.0, z.1)) xs (under d flat))

  -- the pairs that are tested stand under both headers
  pairs_under : (xs : Combos) (flat : Marks) → AllOver h xs → HaveWidth d flat → AllUnder q (h ++ d) (marked_pairs (both_tested q) xs (under d flat))
  pairs_under xs flat heads wide =
      all_flat_map_of (λ (z : Marked Column). terms_over z.0 ≡ h) (λ (z : Marked Column). IsUnder q (h ++ d) z.0) (λ (x : Marked Column). map (λ (y : Marked Column). (x.0 ++ y.0, x.1 || y.1)) (filter (λ (y : Marked Column). is_tested q (x.0 ++ y.0)) (under d flat))) xs heads (λ x e.
      all_map_of (λ (y : Marked Column). IsUnder q (h ++ d) (x.0 ++ y.0)) (λ (z : Marked Column). IsUnder q (h ++ d) z.0) (λ (y : Marked Column). (x.0 ++ y.0, x.1 || y.1)) (filter (λ (y : Marked Column). is_tested q (x.0 ++ y.0)) (under d flat))
      (tested_under x e flat wide) (λ y u. u))
    where
      tested_under : (x : Marked Column) → terms_over x.0 ≡ h → (more : Marks) → HaveWidth d more → AllByRecursion (λ (y : Marked Column). IsUnder q (h ++ d) (x.0 ++ y.0)) (filter (λ (y : Marked Column). is_tested q (x.0 ++ y.0)) (under d more))
      tested_under x e [] w = tt
      tested_under x e (r ∷ more) w = one (is_tested q (x.0 ++ zip d r.0)) refl (tested_under x e more w.1)
        where
          terms : terms_over (x.0 ++ zip d r.0) ≡ h ++ d
          terms = map-append (λ (c : Column). c.0) x.0 (zip d r.0) ∙ ap (λ z. z ++ terms_over (zip d r.0)) e ∙ ap (λ z. h ++ z) (firsts-zip d r.0 w.0)

          one : (b : Bool) → is_tested q (x.0 ++ zip d r.0) ≡ b → AllByRecursion (λ (y : Marked Column). IsUnder q (h ++ d) (x.0 ++ y.0)) (filter (λ (y : Marked Column). is_tested q (x.0 ++ y.0)) (under d more))
              → AllByRecursion (λ (y : Marked Column). IsUnder q (h ++ d) (x.0 ++ y.0)) (cond b ((zip d r.0, r.1) ∷ filter (λ (y : Marked Column). is_tested q (x.0 ++ y.0)) (under d more)) (filter (λ (y : Marked Column). is_tested q (x.0 ++ y.0)) (under d more)))
          one true is rest = (record { terms = terms; tested = is }, rest)
          one false is rest = rest

module _ (q : Query) (flats : FlatSpec → Marks) where
  -- the plan's flat rows with their marks, and its keys
  abbrev pub row_flats : List Term → ℕ → List Range → List Marks
  row_flats h k [] = []
  row_flats h k (range.Alias j a ∷ ds) = row_flats h (suc k) ds
  row_flats h k (d ∷ ds) = own_marks q h (header q k d) (flats (spec_of q k d)) ∷ row_flats (h ++ header q k d) (suc k) ds

  abbrev pub keys_from : List Term → ℕ → List Range → List PairTest
  keys_from h k [] = []
  keys_from h k (range.Alias j a ∷ ds) = keys_from h (suc k) ds
  keys_from h k (d ∷ ds) = keys_hold q h (header q k d) ∷ keys_from (h ++ header q k d) (suc k) ds

  -- the flat rows have as many cells as there are terms
  abbrev pub AreWide : Type 0
  AreWide = (k : ℕ) (d : Range) → HaveWidth (header q k d) (flats (spec_of q k d))

  terms_of_all : (h : List Term) (xs : Combos) → AllUnder q h xs → AllOver h xs
  terms_of_all h [] u = tt
  terms_of_all h (x ∷ xs) u = (u.0.terms, terms_of_all h xs u.1)

  touched_same : AreWide → (ds : List Range) (h : List Term) (k : ℕ) (xs : Combos) (rows : Marks) → AllUnder q h xs → SameMarks xs rows
      → touched_from q xs (marked_bases flats q k ds) ≡ count_marked rows + later_rows (keys_from h k ds) rows (row_flats h k ds)
  touched_same wide [] h k xs rows u same = omega (arith, same (λ (r : Marked Text). cond r.1 1 0))
  touched_same wide (range.Alias j a ∷ ds) h k xs rows u same = touched_same wide ds h (suc k) xs rows u same
  touched_same wide (d ∷ ds) h k xs rows u same =
      let own = flats (spec_of q k d) in
      let rest = touched_same wide ds (h ++ header q k d) (suc k) (marked_pairs (both_tested q) xs (under (header q k d) (flats (spec_of q k d)))) (marked_pairs (keys_hold q h (header q k d)) rows (own_marks q h (header q k d) (flats (spec_of q k d))))
      (pairs_under q h (header q k d) xs own (terms_of_all h xs u) (wide k d)) (same_stage q h (header q k d) xs rows own u (wide k d) same) in
      omega (arith, rest, same (λ (r : Marked Text). cond r.1 1 0))

  module _ (wide : AreWide) (d : Range) (ds : List Range) where
    abbrev start : List Term
    start = header q 0 d

    abbrev first_flats : Marks
    first_flats = flats (spec_of q 0 d)

    abbrev pub first_marks : Marks
    first_marks = own_marks q [] start first_flats

    abbrev first_combos : Combos
    first_combos = under start first_flats

    start_same : SameMarks (marked_pairs (both_tested q) (([], false) ∷ []) first_combos) first_marks
    start_same f =
        weigh-filter f (λ (r : Marked Text). own_holds q [] start r.0) first_flats
        ∙ sym (
        weigh-pairs (both_tested q) (λ (z : Marked Column). f (texts z.0, z.1)) (([], false) ∷ []) first_combos
        ∙ add-zero (weigh (λ (y : Marked Column). cond (is_tested q y.0) (f (texts y.0, y.1)) 0) first_combos)
        ∙ weigh-map _ (λ (r : Marked Text). (zip start r.0, r.1)) first_flats
        ∙ weigh-same_where (λ (r : Marked Text). length r.0 ≡ length start) _ _ (λ (r : Marked Text) w.
        ap (λ b. cond b (f (texts (zip start r.0), r.1)) 0) (start_tested q start r.0 w)
        ∙ ap (λ y. cond (own_holds q [] start r.0) (f (y, r.1)) 0) (seconds-zip start r.0 w)) first_flats (wide 0 d))

    -- the marked combinations are as many as the marked rows of the plan
    pub touched_plan : touched q (first_combos ∷ marked_bases flats q 1 ds) ≡ count_marked first_marks + later_rows (keys_from start 1 ds) first_marks (row_flats start 1 ds)
    touched_plan =
        touched_is q (first_combos ∷ marked_bases flats q 1 ds)
        ∙ zero_plus (touched_from q (marked_pairs (both_tested q) (([], false) ∷ []) first_combos) (marked_bases flats q 1 ds))
        ∙ touched_same wide ds start 1 (marked_pairs (both_tested q) (([], false) ∷ []) first_combos) first_marks
        (pairs_under q [] start (([], false) ∷ []) first_flats (refl, tt) (wide 0 d)) start_same
      where
        zero_plus : (n : ℕ) → (0 + 0) + n ≡ n
        zero_plus n = omega arith
