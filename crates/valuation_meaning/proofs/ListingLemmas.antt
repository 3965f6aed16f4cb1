-- The facts of the valuations that begin with given elements, one declaration on.
use Rattle.std.proofs.Common.{◌≡◌, ◌+◌, ℕ, Bool, List, [], ◌∷◌, ◌++◌, Some, None, drop, length, map, refl, sym, ap, ◌∙◌, append-nil, length-append, append_assoc, take, ◌-◌, Option, arith}
use Rattle.std.specs.Prelude.{◌&&◌, is_some, filter, flat_map, option_to_list, option_map, option_copied, slice_get, IfSome, if◌then◌else◌}
use Rattle.std.proofs.lemmas.List.{map-append}
use Rattle.std.proofs.lemmas.List.Elements.{filter-append}
use Rattle.std.proofs.Math.Seq.{take-append_seam}
use Rattle.std.proofs.lemmas.List.Concat.{flat_map-append}
use Rattle.ss_text.specs.Texts.{Text}
use Rattle.schema_model.specs.Catalogue.{CatalogueValue}
use Rattle.view_def.specs.declared.typed.Place.{Place}
use Rattle.view_def.specs.declared.typed.Range.{Range}
use Rattle.view_def.specs.declared.typed.Range.TheVariants as range
use Rattle.view_def.specs.Query.{Query}
use Rattle.flow_law.specs.Facts.{Fact}
use Rattle.schema_model.specs.Catalogue.{RelationValue}
use Rattle.schema_model.specs.States.{RelationState, plain_relation}
use denote.Ref.{Bor}
use Rattle.std.specs.List.{range_with_len}
use Rattle.std.proofs.lemmas.List.FromFn.{map-range_with_len_more}
use Rattle.view_meaning.specs.Early.{AliasesAgree}
use Rattle.valuation_meaning.proofs.AliasLemmas.{no_alias}
use Rattle.view_meaning.specs.Elements.{Element, A_text, A_row, Valuation, cell_at, relation_at, all_rows, elements}
use Rattle.view_def.specs.declared.typed.Term.{Term}
use Rattle.view_meaning.specs.Terms.{Reading, value_of}
use Rattle.view_meaning.specs.Valuations.{assignments, counts, valuations}
use Rattle.view_meaning.specs.Meaning.{cell_of_reading, fact_of, facts}
use Rattle.fact_tables.specs.Counted.{EachAsOften}
use Rattle.valuation_meaning.specs.Listed.{has_cells}
use Rattle.valuation_meaning.specs.Listing.{facts_after, AreEnough}
use Rattle.ss_text.proofs.GroupWalk.{one_left}
use Rattle.view_meaning.proofs.CountLemmas.{none_if, some_if}

spread : {A B C : Type 0} (f : B → C) (test : B → Bool) (g : A → List B) (xs : List A) → map f (filter test (flat_map g xs)) ≡ flat_map (λ (x : A). map f (filter test (g x))) xs
spread f test g [] = refl
spread f test g (x ∷ xs) =
    ap (map f) (filter-append test (g x) (flat_map g xs)) ∙ map-append f (filter test (g x)) (filter test (flat_map g xs))
    ∙ ap (λ rest. map f (filter test (g x)) ++ rest) (spread f test g xs)

module _ (c : CatalogueValue) (q : Query) (v : Valuation) where
  -- no declaration is left
  pub counted : (f : Fact) → Some f ≡ (if counts q (value_of v) then Some (fact_of q (value_of v)) else None) → facts_after c q v [] ≡ f ∷ []
  unfolding facts_after
  counted f e =
      let h = some_if (counts q (value_of v)) (fact_of q (value_of v)) f e in
      rw (h.0, h.1)

  pub uncounted : None ≡ (if counts q (value_of v) then Some (fact_of q (value_of v)) else None) → facts_after c q v [] ≡ []
  unfolding facts_after
  uncounted e = rw (none_if (counts q (value_of v)) (fact_of q (value_of v)) e)

  pub facts_after-more : (d : Range) (ds : List Range) → facts_after c q v (d ∷ ds) ≡ flat_map (λ (e : Element). facts_after c q (v ++ e ∷ []) ds) (elements c v d)
  unfolding facts_after
  facts_after-more d ds = spread (λ (w : Valuation). fact_of q (value_of w)) (λ (w : Valuation). counts q (value_of w)) (λ (e : Element). assignments c (v ++ e ∷ []) ds) (elements c v d)

  -- all elements of the next declaration are enough
  pub all_enough : (d : Range) → Some d ≡ slice_get q.decls (length v) → AreEnough c q v (elements c v d)
  all_enough d here = ap (facts_after c q v) (one_left q.decls (length v) d here) ∙ facts_after-more d (drop (length v + 1) q.decls)

-- a fact has a cell just where the view has a variable column
cell_there : (r : Reading) (p : Option Place) (t : Option Term) → is_some (cell_of_reading r p t) ≡ is_some p && is_some t
cell_there r (Some p) (Some t) = refl
cell_there r (Some p) None = refl
cell_there r None t = refl

pub have_cells : (q : Query) (r : Reading) (f : Fact) (b : Bool) → Some f ≡ (if b then Some (fact_of q r) else None) → is_some f.cell ≡ has_cells q
have_cells q r f b e = ap (λ (g : Fact). is_some g.cell) (some_if b (fact_of q r) f e).1 ∙ cell_there r q.column q.value

-- an alias has the element of its cell alone, or none
module _ (c : CatalogueValue) (q : Query) (v : Valuation) (j : ℕ) (a : Place) (here : Some (range.Alias j a) ≡ slice_get q.decls (length v)) where
  alias_enough : facts_after c q v (drop (length v) q.decls) ≡ flat_map (λ (e : Element). facts_after c q (v ++ e ∷ []) (drop (length v + 1) q.decls)) (map A_text (option_to_list (cell_at v j a)))
  alias_enough = all_enough c q v (range.Alias j a) here

  pub none_enough : None ≡ cell_at v j a → AreEnough c q v []
  none_enough none = rw (← none) at alias_enough

  pub one_enough : (t : Text) → Some t ≡ cell_at v j a → AreEnough c q v (A_text t ∷ [])
  one_enough t some = rw (← some) at alias_enough

-- the facts that are listed with one element
pub facts_of_one : (c : CatalogueValue) (q : Query) (v begun : Valuation) (e : Element) (old new : List Fact) → begun ≡ v ++ e ∷ [] → AreEnough c q v (e ∷ [])
    → new ≡ old ++ facts_after c q begun (drop (length begun) q.decls) → new ≡ old ++ facts_after c q v (drop (length v) q.decls)
facts_of_one c q v begun e old new is enough added =
    added ∙ ap (λ (w : Valuation). old ++ facts_after c q w (drop (length w) q.decls)) is
    ∙ ap (λ n. old ++ facts_after c q (v ++ e ∷ []) (drop n q.decls)) (length-append v (e ∷ []))
    ∙ ap (λ (fs : List Fact). old ++ fs) (sym (append-nil (facts_after c q (v ++ e ∷ []) (drop (length v + 1) q.decls))) ∙ sym enough)

-- all rows of a relation, where the next declaration is of its tuples
module _ (c : CatalogueValue) (q : Query) (v : Valuation) (db rel : Place) (here : Some (range.Tuples db rel) ≡ slice_get q.decls (length v)) where
  pub rows_enough : (o : Option (Bor RelationState)) → option_map plain_relation (option_copied o) ≡ relation_at c v db rel → IfSome o (λ r. AreEnough c q v (all_rows (plain_relation r.now)))
  rows_enough None is = tt
  rows_enough (Some r) is = rw (← is) at (all_enough c q v (range.Tuples db rel) here)

  pub rows_agree : (o : Option (Bor RelationState)) → AliasesAgree q v → IfSome o (λ _. (e : Element) → AliasesAgree q (v ++ e ∷ []))
  rows_agree None agree = tt
  rows_agree (Some r) agree = λ e. no_alias c q v e (range.Tuples db rel) agree here (λ j a h. absurd (cc))

-- the elements before one that was put last, and is out again
pub popped : (v left all : Valuation) (e : Element) (count : ℕ) → all ≡ v ++ e ∷ [] → count ≡ length all → left ≡ take (count - 1) all → left ≡ v
popped v left all e count is size taken =
    taken ∙ ap (λ k. take (k - 1) all) size ∙ ap (λ (w : Valuation). take (length w - 1) w) is
    ∙ ap (λ k. take k (v ++ e ∷ [])) (omega (arith, length-append v (e ∷ []))) ∙ take-append_seam v (e ∷ [])

-- the facts that are listed with one row more
pub facts_of_row : (c : CatalogueValue) (q : Query) (v begun : Valuation) (r : RelationValue) (n : ℕ) (e : Element) (old listed new : List Fact) → begun ≡ v ++ e ∷ [] → e ≡ A_row r n
    → listed ≡ old ++ flat_map (λ (e : Element). facts_after c q (v ++ e ∷ []) (drop (length v + 1) q.decls)) (map (A_row r) (range_with_len 0 n))
    → new ≡ listed ++ facts_after c q begun (drop (length begun) q.decls)
    → new ≡ old ++ flat_map (λ (e : Element). facts_after c q (v ++ e ∷ []) (drop (length v + 1) q.decls)) (map (A_row r) (range_with_len 0 (n + 1)))
facts_of_row c q v begun r n e old listed new is row before added =
    let facts = λ (e : Element). facts_after c q (v ++ e ∷ []) (drop (length v + 1) q.decls) in
    added ∙ ap (λ (w : Valuation). listed ++ facts_after c q w (drop (length w) q.decls)) is
    ∙ ap (λ m. listed ++ facts_after c q (v ++ e ∷ []) (drop m q.decls)) (length-append v (e ∷ []))
    ∙ ap (λ (w : Element). listed ++ facts w) row
    ∙ ap (λ (fs : List Fact). fs ++ facts (A_row r n)) before
    ∙ ap (λ (fs : List Fact). (old ++ flat_map facts (map (A_row r) (range_with_len 0 n))) ++ fs) (sym (append-nil (facts (A_row r n))))
    ∙ append_assoc old (flat_map facts (map (A_row r) (range_with_len 0 n))) (facts (A_row r n) ++ [])
    ∙ ap (λ (fs : List Fact). old ++ fs) (sym (flat_map-append facts (map (A_row r) (range_with_len 0 n)) (A_row r n ∷ [])))
    ∙ ap (λ (es : List Element). old ++ flat_map facts es) (sym (map-range_with_len_more (A_row r) 0 n n (omega arith)))

-- all facts
pub facts_after_all : (c : CatalogueValue) (q : Query) → facts_after c q [] (drop 0 q.decls) ≡ facts c q
unfolding facts_after facts valuations
facts_after_all c q = refl

-- what is each as often as in a list of the view's facts is so as in them
pub as_often : (c : CatalogueValue) (q : Query) (fs : List Fact) → fs ≡ facts c q → (gs : List Fact) → EachAsOften fs gs → EachAsOften (facts c q) gs
as_often c q fs same gs h = rw (← same) h
