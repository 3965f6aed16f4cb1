-- The facts of a view are those of its full combinations.
use Rattle.std.proofs.Common.{◌≡◌, inl, inr, ℕ, ◌+◌, List, [], ◌∷◌, true, ◌&&◌, cond, refl, ap, sym, ◌∙◌, Option, Some, is_some, filter}
use Rattle.std.specs.Prelude.{filter_map, fold}
use Rattle.ss_text.specs.Texts.{Text}
use Rattle.schema_model.specs.Catalogue.{CatalogueValue}
use Rattle.schema_model.specs.Sound.{IsSound}
use Rattle.plan_law.specs.Kinds.{Term}
use Rattle.view_def.specs.Terms.{terms_of_view}
use Rattle.view_def.specs.Query.{Query}
use Rattle.view_def.specs.Profile.{IsViewOfProfile}
use Rattle.flow_law.specs.Facts.{Fact}
use Rattle.view_meaning.specs.Terms.{Reading, are_defined}
use Rattle.view_meaning.specs.Valuations.{counts}
use Rattle.view_meaning.specs.Meaning.{fact_of, facts}
use Rattle.plan_law.specs.Columns.{Combo, alias_cell, read, is_consistent, stage, bases, combo_facts, terms_over}
use Rattle.plan_law.specs.Laws.{CombosList}
use Rattle.std.proofs.Math.Seq.{take-length}
use Rattle.std.proofs.Math.Nat.{add-zero}
use Rattle.plan_law.proofs.Columns.{Has, has_left}
use Rattle.plan_law.proofs.Held.{Fits}
use Rattle.plan_law.proofs.Steps.{combined}
use Rattle.plan_law.proofs.Facts.{tested_column, full_weight, facts_listed}
use Rattle.plan_law.proofs.Staged.{where_tested, staged, all_tested, tested_counts}
use Rattle.plan_law.proofs.Profile.{profile_fits}
use Rattle.plan_law.proofs.Widths.{combined_over, whole_header, said}
use Rattle.operator_law.specs.Bags.{weigh, SameBag}
use Rattle.operator_law.proofs.Weights.{weigh-filter, weigh-map, weigh-same_where}

module _ (c : CatalogueValue) (sound : IsSound c) (q : Query) (fits : Fits q) where
  all_defined : (a : Reading) (ts : List Term) → ((t : Term) → Has ts t → (s : Text) × (a t ≡ Some s)) → are_defined a ts ≡ true
  all_defined a [] h = refl
  all_defined a (t ∷ ts) h = ap (λ (o : Option Text). is_some o && are_defined a ts) (h t (inl refl)).1 ∙ all_defined a ts (λ s m. h s (inr m))

  -- what the fact of a combination weighs, where it counts
  abbrev fact_there : (Fact → ℕ) → Combo → ℕ
  fact_there f y = cond (counts q (read q y)) (f (fact_of q (read q y))) 0

  full_there : (f : Fact → ℕ) (y : Combo) → terms_over y ≡ whole_header q fits → cond (is_consistent q y) (full_weight q fits f (read q y)) 0 ≡ where_tested q (fact_there f) y
  full_there f y e =
      let cells = filter_map alias_cell q.decls in
      let there : are_defined (read q y) (filter_map alias_cell q.decls) ≡ true = all_defined (read q y) (filter_map alias_cell q.decls) (λ t m. said q fits y e t (tested_column q fits t (has_left (filter_map alias_cell q.decls) (terms_of_view q) t m))) in
      ap (λ b. cond (is_consistent q y) (cond b (fact_there f y) 0) 0) there
      ∙ sym (tested_counts q y (f (fact_of q (read q y))))

  facts_weigh : (f : Fact → ℕ) (xs : List Combo) → weigh f (combo_facts q xs) ≡ weigh (fact_there f) xs
  facts_weigh f xs = weigh-map f (λ x. fact_of q (read q x)) (filter (λ x. counts q (read q x)) xs) ∙ weigh-filter _ (λ x. counts q (read q x)) xs

  -- one fact for each valuation is one fact for each full combination that counts
  pub facts_of_combos : SameBag (facts c q) (combo_facts q (fold (stage q) ([] ∷ []) (bases c q)))
  facts_of_combos f =
      facts_listed c sound q fits f
      ∙ weigh-same_where (λ y. terms_over y ≡ whole_header q fits) _ _ (full_there f) (combined [] (bases c q)) (combined_over c q q.decls 0 [])
      ∙ sym (add-zero (weigh (where_tested q (fact_there f)) (combined [] (bases c q))))
      ∙ sym (staged q (fact_there f) (bases c q) ([] ∷ []))
      ∙ all_tested q (fact_there f) (bases c q) ([] ∷ []) (ap (λ n. n + 0) (tested_counts q [] (f (fact_of q (read q [])))))
      ∙ sym (facts_weigh f (fold (stage q) ([] ∷ []) (bases c q)))

-- for each sound catalogue and each view of the profile
pub plan_lists : (c : CatalogueValue) → IsSound c → (q : Query) → IsViewOfProfile q → SameBag (facts c q) (combo_facts q (fold (stage q) ([] ∷ []) (bases c q)))
plan_lists c sound q h = facts_of_combos c sound q (profile_fits q h)

pub combos_list : (c : CatalogueValue) (q : Query) → IsSound c → IsViewOfProfile q → CombosList c q
combos_list c q sound profile f = plan_lists c sound q profile f ∙ ap (λ yss. weigh f (combo_facts q (fold (stage q) ([] ∷ []) yss))) (sym (take-length (bases c q)))
