-- Combinations with marks.
use Rattle.std.proofs.Common.{◌≡◌, ℕ, ◌+◌, zero, suc, List, [], ◌∷◌, ◌++◌, length, map, filter, take, Bool, true, false, ◌||◌, cond, refl, arith, ap, ◌∙◌}
use Rattle.std.specs.Prelude.{fold, zip}
use Rattle.std.specs.List.{range_with_len}
use Rattle.std.proofs.lemmas.List.{map-append}
use Rattle.ss_text.specs.Texts.{Text}
use Rattle.schema_model.specs.Catalogue.{CatalogueValue}
use Rattle.schema_model.specs.declared.change.Change.{Change}
use Rattle.plan_law.specs.Kinds.{Term, Range}
use Rattle.plan_law.specs.Kinds.range
use Rattle.view_def.specs.Query.{Query}
use Rattle.plan_law.specs.Columns.{Column, header, spec_of, columns, bases_from, is_tested, stage, combos}
use Rattle.plan_law.specs.Touched.{Marked, marked_pairs, all_cells, count_marked, both_tested, marked_combos, touched, under, marked_bases}
use Rattle.plan_law.specs.Marks.{marked_flat}
use Rattle.plan_law.proofs.MarkedFlat.{unmarked}
use Rattle.operator_law.specs.Bags.{weigh}

-- how many of these combinations are marked, and of those that go on with more declarations
abbrev pub touched_from : Query → List (Marked Column) → List (List (Marked Column)) → ℕ
touched_from q xs [] = count_marked xs
touched_from q xs (ys ∷ yss) = count_marked xs + touched_from q (marked_pairs (both_tested q) xs ys) yss

module _ (q : Query) where
  abbrev going_on : List (Marked Column) → List (List (Marked Column)) → ℕ → ℕ
  going_on xs yss k = count_marked (fold (marked_pairs (both_tested q)) xs (take k yss))

  later_places : (f g : ℕ → ℕ) → ((k : ℕ) → f (suc k) ≡ g k) → (s n : ℕ) → weigh f (range_with_len (s + 1) n) ≡ weigh g (range_with_len s n)
  later_places f g same s zero = refl
  later_places f g same s (suc n) =
      let here : f (s + 1) ≡ g s = ap f (plus_one s) ∙ same s in
      omega (arith, here, later_places f g same (s + 1) n)
    where
      plus_one : (s : ℕ) → s + 1 ≡ suc s
      plus_one s = omega arith

  counted : (yss : List (List (Marked Column))) (xs : List (Marked Column)) → weigh (going_on xs yss) (range_with_len 0 (suc (length yss))) ≡ touched_from q xs yss
  counted [] xs = omega arith
  counted (ys ∷ yss) xs =
      let rest = later_places (going_on xs (ys ∷ yss)) (going_on (marked_pairs (both_tested q) xs ys) yss) (λ k. refl) 0 (suc (length yss)) in
      omega (arith, rest, counted yss (marked_pairs (both_tested q) xs ys))

  pub touched_is : (yss : List (List (Marked Column))) → touched q yss ≡ touched_from q (([], false) ∷ []) yss
  touched_is yss = ap (λ n. weigh (going_on (([], false) ∷ []) yss) (range_with_len 0 n)) (plus_one (length yss)) ∙ counted yss (([], false) ∷ [])
    where
      plus_one : (n : ℕ) → n + 1 ≡ suc n
      plus_one n = omega arith

  -- ---- without their marks they are the combinations
  abbrev pairs_with : Marked Column → List (Marked Column) → List (Marked Column)
  pairs_with x ys = map (λ (y : Marked Column). (x.0 ++ y.0, x.1 || y.1)) (filter (λ (y : Marked Column). is_tested q (x.0 ++ y.0)) ys)

  pairs_cells : (x : Marked Column) (ys : List (Marked Column)) → all_cells (pairs_with x ys) ≡ filter (is_tested q) (map (λ y. x.0 ++ y) (all_cells ys))
  pairs_cells x [] = refl
  pairs_cells x (y ∷ ys) = one (is_tested q (x.0 ++ y.0)) (pairs_cells x ys)
    where
      one : (b : Bool) → all_cells (pairs_with x ys) ≡ filter (is_tested q) (map (λ y. x.0 ++ y) (all_cells ys))
          → all_cells (map (λ (y : Marked Column). (x.0 ++ y.0, x.1 || y.1)) (cond b (y ∷ filter (λ (y : Marked Column). is_tested q (x.0 ++ y.0)) ys) (filter (λ (y : Marked Column). is_tested q (x.0 ++ y.0)) ys)))
          ≡ cond b ((x.0 ++ y.0) ∷ filter (is_tested q) (map (λ y. x.0 ++ y) (all_cells ys))) (filter (is_tested q) (map (λ y. x.0 ++ y) (all_cells ys)))
      one true e = ap (λ r. (x.0 ++ y.0) ∷ r) e
      one false e = e

  stage_cells : (xs ys : List (Marked Column)) → all_cells (marked_pairs (both_tested q) xs ys) ≡ stage q (all_cells xs) (all_cells ys)
  stage_cells [] ys = refl
  stage_cells (x ∷ xs) ys =
      map-append (λ (z : Marked Column). z.0) (pairs_with x ys) (marked_pairs (both_tested q) xs ys)
      ∙ ap (λ r. r ++ all_cells (marked_pairs (both_tested q) xs ys)) (pairs_cells x ys)
      ∙ ap (λ r. filter (is_tested q) (map (λ y. x.0 ++ y) (all_cells ys)) ++ r) (stage_cells xs ys)

  stages_cells : (yss : List (List (Marked Column))) (xs : List (Marked Column)) (k : ℕ) → all_cells (fold (marked_pairs (both_tested q)) xs (take k yss)) ≡ fold (stage q) (all_cells xs) (take k (map all_cells yss))
  stages_cells yss xs zero = refl
  stages_cells [] xs (suc k) = refl
  stages_cells (ys ∷ yss) xs (suc k) =
      stages_cells yss (marked_pairs (both_tested q) xs ys) k
      ∙ ap (λ zs. fold (stage q) zs (take k (map all_cells yss))) (stage_cells xs ys)

  under_cells : (h : List Term) (rows : List (Marked Text)) → all_cells (under h rows) ≡ map (zip h) (all_cells rows)
  under_cells h [] = refl
  under_cells h (r ∷ rows) = ap (λ z. zip h r.0 ∷ z) (under_cells h rows)

  bases_cells : (g : Change) (c : CatalogueValue) (ds : List Range) (k : ℕ) → map all_cells (marked_bases (marked_flat g c) q k ds) ≡ bases_from c q k ds
  bases_cells g c [] k = refl
  bases_cells g c (range.Alias j a ∷ ds) k = bases_cells g c ds (suc k)
  bases_cells g c (d ∷ ds) k =
      ap (λ z. z ∷ map all_cells (marked_bases (marked_flat g c) q (suc k) ds)) (under_cells (header q k d) (marked_flat g c (spec_of q k d)) ∙ ap (map (zip (header q k d))) (unmarked g c (spec_of q k d)))
      ∙ ap (λ z. columns c q k d ∷ z) (bases_cells g c ds (suc k))

  pub combos_cells : (g : Change) (c : CatalogueValue) (k : ℕ) → all_cells (marked_combos q (marked_bases (marked_flat g c) q 0 q.decls) k) ≡ combos c q k
  combos_cells g c k =
      stages_cells (marked_bases (marked_flat g c) q 0 q.decls) (([], false) ∷ []) k
      ∙ ap (λ yss. fold (stage q) ([] ∷ []) (take k yss)) (bases_cells g c q.decls 0)
