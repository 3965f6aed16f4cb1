-- Aliases agree with the cells that they name, and a branch that ends has no facts.
use Rattle.std.proofs.Common.{◌≡◌, ◌<◌, ◌+◌, ◌⊎◌, inl, inr, ℕ, zero, suc, Bool, false, List, [], ◌∷◌, ◌++◌, Option, Some, None, length, map, drop, refl, sym, ap, subst, ◌∙◌, arith, append_assoc, append-nil, length-append}
use Rattle.std.specs.Prelude.{option_to_list, filter, flat_map, slice_get, option_and_then}
use Rattle.std.specs.List.{AllByRecursion, All}
use Rattle.std.proofs.lemmas.List.Elements.{filter-append}
use Rattle.std.proofs.lemmas.Bool.{cases_order}
use Rattle.ss_text.specs.Texts.{Text}
use Rattle.schema_model.specs.Catalogue.{CatalogueValue}
use Rattle.view_def.specs.declared.typed.Place.{Place}
use Rattle.view_def.specs.declared.typed.Range.{Range}
use Rattle.view_def.specs.declared.typed.Range.TheVariants as range
use Rattle.view_def.specs.Query.{Query}
use Rattle.view_meaning.specs.Elements.{Element, A_text, Valuation, text_of, text_at, cell_at, elements}
use Rattle.view_meaning.specs.Terms.{value_of}
use Rattle.view_meaning.specs.Valuations.{assignments, counts}
use Rattle.view_meaning.specs.Meaning.{fact_of}
use Rattle.valuation_meaning.specs.Listing.{facts_after}
use Rattle.view_meaning.specs.Early.{AliasesAgree, Ends}
use Rattle.valuation_meaning.proofs.BoundLemmas.{kept_at, cell_stays, last_text}

module _ (c : CatalogueValue) (q : Query) where
  pub none_yet : AliasesAgree q []
  none_yet k j a at lt = absurd (omega (arith, lt))

  -- one element more
  agree_more : (v : Valuation) (e : Element) → AliasesAgree q v
      → ((j : ℕ) (a : Place) → slice_get q.decls (length v) ≡ Some (range.Alias j a) → (t : Text) × (text_of e ≡ Some t) × (cell_at v j a ≡ Some t))
      → AliasesAgree q (v ++ e ∷ [])
  agree_more v e agree last k j a at lt = by_order (cases_order k (length v))
    where
      by_order : (k ≡ length v) ⊎ ((k < length v) ⊎ (length v < k)) → (t : Text) × (text_at (v ++ e ∷ []) k ≡ Some t) × (cell_at (v ++ e ∷ []) j a ≡ Some t)
      by_order (inl same) =
          let l = last j a (subst (λ (n : ℕ). slice_get q.decls n ≡ Some (range.Alias j a)) same at) in
          (l.0, ap (text_at (v ++ e ∷ [])) same ∙ last_text v e ∙ l.1, cell_stays v (e ∷ []) j a l.0 l.2)
      by_order (inr (inl less)) =
          let l = agree k j a at less in
          (l.0, ap (option_and_then text_of) (kept_at v (e ∷ []) k less) ∙ l.1, cell_stays v (e ∷ []) j a l.0 l.2)
      by_order (inr (inr greater)) = absurd (omega (arith, greater, lt, length-append v (e ∷ [])))

  pub no_alias : (v : Valuation) (e : Element) (d : Range) → AliasesAgree q v → Some d ≡ slice_get q.decls (length v) → ((j : ℕ) (a : Place) → d ≡ range.Alias j a → ⊥) → AliasesAgree q (v ++ e ∷ [])
  no_alias v e d agree here other = agree_more v e agree (λ j a at. absurd (other j a (same_some d (range.Alias j a) (here ∙ at))))
    where
      same_some : (x y : Range) → Some x ≡ Some y → x ≡ y
      same_some x y h = cc

  each_of : (P : Element → Type 0) (es : List Element) → ((e : Element) → P e) → AllByRecursion P es
  each_of P [] h = tt
  each_of P (e ∷ es) h = (h e, each_of P es h)

  -- each element of the next declaration
  pub elements_agree : (v : Valuation) (d : Range) → AliasesAgree q v → Some d ≡ slice_get q.decls (length v) → AllByRecursion (λ (e : Element). AliasesAgree q (v ++ e ∷ [])) (elements c v d)
  elements_agree v range.Databases agree here = each_of _ _ (λ e. no_alias v e range.Databases agree here (λ j a h. absurd (cc)))
  elements_agree v (range.Relations db) agree here = each_of _ _ (λ e. no_alias v e (range.Relations db) agree here (λ j a h. absurd (cc)))
  elements_agree v (range.Attributes db rel) agree here = each_of _ _ (λ e. no_alias v e (range.Attributes db rel) agree here (λ j a h. absurd (cc)))
  elements_agree v (range.Tuples db rel) agree here = each_of _ _ (λ e. no_alias v e (range.Tuples db rel) agree here (λ j a h. absurd (cc)))
  elements_agree v (range.Values db rel a) agree here = each_of _ _ (λ e. no_alias v e (range.Values db rel a) agree here (λ j b h. absurd (cc)))
  elements_agree v (range.Alias k b) agree here = by_cell (cell_at v k b) refl
    where
      same_alias : (j : ℕ) (a : Place) → slice_get q.decls (length v) ≡ Some (range.Alias j a) → cell_at v j a ≡ cell_at v k b
      same_alias j a at =
          let both : Some (range.Alias k b) ≡ Some (range.Alias j a) = here ∙ at in
          let first : k ≡ j = cc in
          let second : b ≡ a = cc in
          λ i. cell_at v (sym first i) (sym second i)

      by_cell : (o : Option Text) → cell_at v k b ≡ o → AllByRecursion (λ (e : Element). AliasesAgree q (v ++ e ∷ [])) (map A_text (option_to_list o))
      by_cell None is = tt
      by_cell (Some t) is = (agree_more v (A_text t) agree (λ j a at. (t, refl, same_alias j a at ∙ is)), tt)

  pub alias_agrees : (v : Valuation) (j : ℕ) (a : Place) (t : Text) → AliasesAgree q v → Some (range.Alias j a) ≡ slice_get q.decls (length v) → Some t ≡ cell_at v j a → AliasesAgree q (v ++ A_text t ∷ [])
  alias_agrees v j a t agree here some = (rw (← some) at (elements_agree v (range.Alias j a) agree here)).0

-- ---- branches that end have nothing
all_empty : {A B : Type 0} (p : B → Bool) (f : A → List B) (Q : A → Type 0) (xs : List A) → AllByRecursion Q xs → ((x : A) → Q x → filter p (f x) ≡ []) → filter p (flat_map f xs) ≡ []
all_empty p f Q [] all h = refl
all_empty p f Q (x ∷ xs) all h = filter-append p (f x) (flat_map f xs) ∙ rw (h x all.0, all_empty p f Q xs all.1 h) refl

first_left : {A : Type 0} (xs : List A) (n : ℕ) (x : A) (ys : List A) → drop n xs ≡ x ∷ ys → Some x ≡ slice_get xs n
first_left [] zero x ys e = absurd (cc)
first_left [] (suc n) x ys e = absurd (cc)
first_left (y ∷ xs) zero x ys e = cc
first_left (y ∷ xs) (suc n) x ys e = first_left xs n x ys e

others_left : {A : Type 0} (xs : List A) (n : ℕ) (x : A) (ys : List A) → drop n xs ≡ x ∷ ys → drop (suc n) xs ≡ ys
others_left [] zero x ys e = absurd (cc)
others_left [] (suc n) x ys e = absurd (cc)
others_left (y ∷ xs) zero x ys e = cc
others_left (y ∷ xs) (suc n) x ys e = others_left xs n x ys e

module _ (c : CatalogueValue) (q : Query) where
  abbrev count : Valuation → Bool
  count v = counts q (value_of v)

  ends_more : (v : Valuation) (e : Element) → Ends q v → Ends q (v ++ e ∷ [])
  ends_more v e ends w agree = ap count (append_assoc v (e ∷ []) w) ∙ ends (e ∷ w) (subst (AliasesAgree q) (append_assoc v (e ∷ []) w) agree)

  one_longer : (v : Valuation) (e : Element) → length (v ++ e ∷ []) ≡ suc (length v)
  one_longer v e = length-append v (e ∷ []) ∙ omega arith

  none_count : (v : Valuation) (ds : List Range) → drop (length v) q.decls ≡ ds → AliasesAgree q v → Ends q v → filter count (assignments c v ds) ≡ []
  none_count v [] left agree ends =
      let no : count v ≡ false = ap count (sym (append-nil v)) ∙ ends [] (subst (AliasesAgree q) (sym (append-nil v)) agree) in
      rw no refl
  none_count v (d ∷ ds) left agree ends =
      all_empty count (λ (e : Element). assignments c (v ++ e ∷ []) ds) (λ (e : Element). AliasesAgree q (v ++ e ∷ [])) (elements c v d) (elements_agree c q v d agree (first_left q.decls (length v) d ds left))
      (λ e agrees. none_count (v ++ e ∷ []) ds (ap (λ n. drop n q.decls) (one_longer v e) ∙ others_left q.decls (length v) d ds left) agrees (ends_more v e ends))

  pub no_facts : (v : Valuation) → AliasesAgree q v → Ends q v → facts_after c q v (drop (length v) q.decls) ≡ []
  unfolding facts_after
  no_facts v agree ends = ap (map (λ (w : Valuation). fact_of q (value_of w))) (none_count v (drop (length v) q.decls) refl agree ends)

  -- after one element more
  pub no_facts_more : (v : Valuation) (e : Element) → AliasesAgree q (v ++ e ∷ []) → Ends q (v ++ e ∷ []) → facts_after c q (v ++ e ∷ []) (drop (length v + 1) q.decls) ≡ []
  no_facts_more v e agree ends = ap (λ n. facts_after c q (v ++ e ∷ []) (drop n q.decls)) (sym (length-append v (e ∷ []))) ∙ no_facts (v ++ e ∷ []) agree ends

-- what holds of each element, by its place
pub all_by : {A : Type 0} (P : A → Type 0) (xs : List A) → AllByRecursion P xs → All P xs
all_by P [] h i x lt = absurd (omega (arith, lt))
all_by P (x ∷ xs) h zero y lt = h.0
all_by P (x ∷ xs) h (suc i) y lt = all_by P xs h.1 i y (omega (arith, lt))
