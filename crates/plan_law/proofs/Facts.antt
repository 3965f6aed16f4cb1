-- The facts of all valuations are those of all consistent combinations.
use Rattle.std.proofs.Common.{◌≡◌, ◌⊎◌, inl, inr, ℕ, ◌+◌, List, [], ◌∷◌, ◌++◌, map, Bool, true, false, ◌&&◌, ◌||◌, not, cond, refl, ap, sym, ◌∙◌, Option, Some, None, is_some}
use Rattle.std.specs.Prelude.{option_to_list, filter_map}
use Rattle.ss_text.specs.Texts.{Text}
use Rattle.schema_model.specs.Catalogue.{CatalogueValue}
use Rattle.schema_model.specs.Sound.{IsSound}
use Rattle.plan_law.specs.Kinds.{Place, Term, Range}
use Rattle.plan_law.specs.Kinds.term
use Rattle.plan_law.specs.Kinds.range
use Rattle.view_def.specs.Conditions.{Condition, Conditions, AnyOf, AllOf, NotOf, Compares, none, more}
use Rattle.view_def.specs.Query.{Query}
use Rattle.flow_law.specs.Facts.{Fact}
use Rattle.view_meaning.specs.Elements.{A_text, Valuation, cell_at, elements}
use Rattle.view_meaning.specs.Terms.{Reading, value_of, are_defined, is_true, some_is_true, each_is_true, compares_values}
use Rattle.view_meaning.specs.Valuations.{assignments, valuations, counts, meets}
use Rattle.view_def.specs.Terms.{terms_of, terms_of_each, terms_of_filter, terms_of_view}
use Rattle.view_meaning.specs.Meaning.{given, values_of, term_of, cell_of_reading, fact_of, facts}
use Rattle.plan_law.specs.Columns.{alias_cell, tested_terms, read, is_consistent, bases}
use Rattle.plan_law.proofs.Weights.{cond-none}
use Rattle.plan_law.proofs.Columns.{Has, has_left, has_right, has_either}
use Rattle.plan_law.proofs.Held.{IsColumn, Fits, cell_more}
use Rattle.plan_law.proofs.Agree.{IsWeight, assigned-same}
use Rattle.plan_law.proofs.Steps.{combined}
use Rattle.plan_law.proofs.Listing.{listed}
use Rattle.operator_law.specs.Bags.{weigh}
use Rattle.operator_law.proofs.Weights.{weigh-same, weigh-filter, weigh-map, weigh-flat_map}

-- readings that agree on terms
module _ (a b : Reading) where
  abbrev Agree : List Term → Type 0
  Agree ts = (t : Term) → Has ts t → a t ≡ b t

  defined_same : (ts : List Term) → Agree ts → are_defined a ts ≡ are_defined b ts
  defined_same [] h = refl
  defined_same (t ∷ ts) h =
      ap (λ (o : Option _). is_some o && are_defined a ts) (h t (inl refl)) ∙ ap (λ r. is_some (b t) && r) (defined_same ts (λ t m. h t (inr m)))

  mutual
    true_same : (x : Condition) → Agree (terms_of x) → is_true a x ≡ is_true b x
    true_same (AnyOf xs) h = some_same xs h
    true_same (AllOf xs) h = each_same xs h
    true_same (NotOf x) h = ap not (true_same x h)
    true_same (Compares s op t) h = ap (λ o. compares_values op o (a t)) (h s (inl refl)) ∙ ap (compares_values op (b s)) (h t (inr (inl refl)))

    some_same : (xs : Conditions) → Agree (terms_of_each xs) → some_is_true a xs ≡ some_is_true b xs
    some_same none h = refl
    some_same (more x xs) h =
        ap (λ r. r || some_is_true a xs) (true_same x (λ t m. h t (has_left (terms_of x) (terms_of_each xs) t m)))
        ∙ ap (λ r. is_true b x || r) (some_same xs (λ t m. h t (has_right (terms_of x) (terms_of_each xs) t m)))

    each_same : (xs : Conditions) → Agree (terms_of_each xs) → each_is_true a xs ≡ each_is_true b xs
    each_same none h = refl
    each_same (more x xs) h =
        ap (λ r. r && each_is_true a xs) (true_same x (λ t m. h t (has_left (terms_of x) (terms_of_each xs) t m)))
        ∙ ap (λ r. is_true b x && r) (each_same xs (λ t m. h t (has_right (terms_of x) (terms_of_each xs) t m)))

  meets_same : (o : Option Condition) → Agree (terms_of_filter o) → meets a o ≡ meets b o
  meets_same None h = refl
  meets_same (Some x) h = true_same x h

  keys_same : (ts : List Term) → Agree ts → values_of a ts ≡ values_of b ts
  keys_same [] h = refl
  keys_same (t ∷ ts) h = ap (λ o. given o ∷ values_of a ts) (h t (inl refl)) ∙ ap (λ r. given (b t) ∷ r) (keys_same ts (λ t m. h t (inr m)))

  cell_same : (p : Option Place) (v : Option Term) → ((q : Place) → p ≡ Some q → a (term_of q) ≡ b (term_of q)) → Agree (option_to_list v) → cell_of_reading a p v ≡ cell_of_reading b p v
  cell_same None v hp hv = refl
  cell_same (Some q) None hp hv = refl
  cell_same (Some q) (Some t) hp hv = ap (λ o. Some (given o, given (a t))) (hp q refl) ∙ ap (λ o. Some (given (b (term_of q)), given o)) (hv t (inl refl))

undefined : (a : Reading) (ts : List Term) (t : Term) → Has ts t → a t ≡ None → are_defined a ts ≡ false
undefined a [] t m e = absurd m
undefined a (s ∷ ts) t (inl same) e = ap (λ (o : Option _). is_some o && are_defined a ts) (ap a same ∙ e)
undefined a (s ∷ ts) t (inr m) e = and_none (is_some (a s)) (are_defined a ts) (undefined a ts t m e)
  where
    and_none : (x y : Bool) → y ≡ false → (x && y) ≡ false
    and_none true y e = e
    and_none false y e = refl

module _ (q : Query) (fits : Fits q) where
  abbrev alias_cells : List Term
  alias_cells = filter_map alias_cell q.decls

  pub tested_column : (t : Term) → Has (tested_terms q) t → IsColumn q t
  tested_column (term.Literal t) m = tt
  tested_column (term.Var i) m = fits.names i m
  tested_column (term.Cell k a) m = m

  view_tested : (t : Term) → Has (terms_of_view q) t → Has (tested_terms q) t
  view_tested t m = has_right alias_cells (terms_of_view q) t m

  -- what the fact of a reading weighs, where it counts and the cells of the aliases are there
  abbrev fact_weight : (Fact → ℕ) → Reading → ℕ
  fact_weight f a = cond (counts q a) (f (fact_of q a)) 0

  abbrev pub full_weight : (Fact → ℕ) → Reading → ℕ
  full_weight f a = cond (are_defined a alias_cells) (fact_weight f a) 0

  fact_same : (a b : Reading) → ((t : Term) → IsColumn q t → a t ≡ b t) → fact_of q a ≡ fact_of q b
  fact_same a b h =
      let on = λ (t : Term) (m : Has (terms_of_view q) t). h t (tested_column t (view_tested t m)) in
      let d = ap given (h (term_of q.label) fits.label) in
      let e = keys_same a b q.keys (λ t m. on t (has_left (q.keys ++ option_to_list q.value) (terms_of_filter q.condition) t (has_left q.keys (option_to_list q.value) t m))) in
      let f = cell_same a b q.column q.value (λ p is. h (term_of p) (fits.column p is)) (λ t m. on t (has_left (q.keys ++ option_to_list q.value) (terms_of_filter q.condition) t (has_right q.keys (option_to_list q.value) t m))) in
      cc

  weight : (f : Fact → ℕ) → IsWeight q (full_weight f)
  unfolding counts
  weight f = record {
    same = λ a b h.
        let on = λ (t : Term) (m : Has (tested_terms q) t). h t (tested_column t m) in
        ap (λ x. cond x (fact_weight f a) 0) (defined_same a b alias_cells (λ t m. on t (has_left alias_cells (terms_of_view q) t m)))
        ∙ ap (λ x. cond (are_defined b alias_cells) x 0) (
        ap (λ x. cond (x && meets a q.condition) (f (fact_of q a)) 0) (defined_same a b (terms_of_view q) (λ t m. on t (view_tested t m)))
        ∙ ap (λ x. cond (are_defined b (terms_of_view q) && x) (f (fact_of q a)) 0) (meets_same a b q.condition (λ t m. on t (view_tested t (has_right (q.keys ++ option_to_list q.value) (terms_of_filter q.condition) t m))))
        ∙ ap (λ x. cond (counts q b) (f x) 0) (fact_same a b h));
    gone = λ a t m e. one a t e (has_either alias_cells (terms_of_view q) t m);
  }
    where
      one : (a : Reading) (t : Term) → a t ≡ None → Has alias_cells t ⊎ Has (terms_of_view q) t → full_weight f a ≡ 0
      one a t e (inl m) = ap (λ x. cond x (fact_weight f a) 0) (undefined a alias_cells t m e)
      one a t e (inr m) =
          ap (λ x. cond (are_defined a alias_cells) (cond (x && meets a q.condition) (f (fact_of q a)) 0) 0) (undefined a (terms_of_view q) t m e)
          ∙ cond-none (are_defined a alias_cells)

-- the cells of aliases are there in each assignment
aliases_there : (c : CatalogueValue) (h : Valuation → ℕ) (ds : List Range) (v : Valuation) → weigh (λ w. cond (are_defined (value_of w) (filter_map alias_cell ds)) (h w) 0) (assignments c v ds) ≡ weigh h (assignments c v ds)
aliases_there c h [] v = refl
aliases_there c h (range.Alias j a ∷ ds) v =
    weigh-flat_map _ (λ e. assignments c (v ++ e ∷ []) ds) (elements c v (range.Alias j a))
    ∙ one (λ s. aliases_there c h ds (v ++ A_text s ∷ [])) (cell_at v j a) refl
    ∙ sym (weigh-flat_map h (λ e. assignments c (v ++ e ∷ []) ds) (elements c v (range.Alias j a)))
  where
    plus_same : {m n : ℕ} → m ≡ n → m + 0 ≡ n + 0
    plus_same e = ap (λ n. n + 0) e

    one : ((s : Text) → weigh (λ w. cond (are_defined (value_of w) (filter_map alias_cell ds)) (h w) 0) (assignments c (v ++ A_text s ∷ []) ds) ≡ weigh h (assignments c (v ++ A_text s ∷ []) ds)) → (o : Option Text) → cell_at v j a ≡ o
        → weigh (λ e. weigh (λ w. cond (is_some (cell_at w j a) && are_defined (value_of w) (filter_map alias_cell ds)) (h w) 0) (assignments c (v ++ e ∷ []) ds)) (map A_text (option_to_list o))
        ≡ weigh (λ e. weigh h (assignments c (v ++ e ∷ []) ds)) (map A_text (option_to_list o))
    one rest None is = refl
    one rest (Some s) is = plus_same (
        assigned-same c _ _ ds (v ++ A_text s ∷ []) (λ w.
        ap (λ (o : Option Text). cond (is_some o && are_defined (value_of ((v ++ A_text s ∷ []) ++ w)) (filter_map alias_cell ds)) (h ((v ++ A_text s ∷ []) ++ w)) 0)
        (cell_more (v ++ A_text s ∷ []) w j a s (cell_more v (A_text s ∷ []) j a s is)))
        ∙ rest s)
aliases_there c h (d ∷ ds) v =
    weigh-flat_map _ (λ e. assignments c (v ++ e ∷ []) ds) (elements c v d)
    ∙ weigh-same _ _ (λ e. aliases_there c h ds (v ++ e ∷ [])) (elements c v d)
    ∙ sym (weigh-flat_map h (λ e. assignments c (v ++ e ∷ []) ds) (elements c v d))

-- the facts of all valuations, by combinations
pub facts_listed : (c : CatalogueValue) → IsSound c → (q : Query) → (fits : Fits q) → (f : Fact → ℕ) → weigh f (facts c q) ≡ weigh (λ y. cond (is_consistent q y) (full_weight q fits f (read q y)) 0) (combined [] (bases c q))
unfolding facts valuations
facts_listed c sound q fits f =
    weigh-map f (λ v. fact_of q (value_of v)) (valuations c q)
    ∙ weigh-filter _ (λ v. counts q (value_of v)) (assignments c [] q.decls)
    ∙ sym (aliases_there c (λ v. fact_weight q fits f (value_of v)) q.decls [])
    ∙ listed c sound q fits (full_weight q fits f) (weight q fits f)
