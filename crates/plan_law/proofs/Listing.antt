-- All assignments weigh what all consistent combinations do.
use Rattle.std.proofs.Common.{◌≡◌, ◌⊎◌, inl, inr, subst, ◌<◌, ◌≤◌, ◌-◌, ℕ, ◌+◌, suc, List, [], ◌∷◌, ◌++◌, length, take, map, Bool, true, false, ◌&&◌, not, cond, refl, arith, ap, sym, ◌∙◌, Option, Some, None, append-nil}
use Rattle.std.specs.Prelude.{option_to_list}
use Rattle.std.specs.List.{slice_get}
use Rattle.std.specs.Option.{option_and_then, option_map_or}
use Rattle.std.proofs.lemmas.Bool.{cases_lt}
use Rattle.std.proofs.lemmas.List.{length-append}
use Rattle.std.proofs.Math.Nat.{add-zero}
use Rattle.ss_text.specs.Texts.{Text}
use Rattle.schema_model.specs.Catalogue.{CatalogueValue}
use Rattle.schema_model.specs.Sound.{IsSound}
use Rattle.plan_law.specs.Kinds.{Place, Term, Range}
use Rattle.plan_law.specs.Kinds.place
use Rattle.plan_law.specs.Kinds.term
use Rattle.plan_law.specs.Kinds.range
use Rattle.view_def.specs.Query.{Query}
use Rattle.view_def.specs.Profile.{lists_tuples, is_tuple_variable, is_text_variable, has_text, is_range_over}
use Rattle.view_meaning.specs.Elements.{Element, A_text, Valuation, text_of, cell_at, elements}
use Rattle.view_meaning.specs.Terms.{Reading, value_of}
use Rattle.view_meaning.specs.Valuations.{assignments}
use Rattle.plan_law.specs.Columns.{Combo, read, is_consistent, columns, bases_from, bases}
use Rattle.plan_law.proofs.Weights.{weigh-zero}
use Rattle.plan_law.proofs.Columns.{Has, has_either, and_left, and_right, consistent_start}
use Rattle.plan_law.proofs.Held.{Stands, IsAliased, IsColumn, Owns, Fits, cell_more, stands_more}
use Rattle.plan_law.proofs.Known.{Reads, text_declared, tuple_declared, before_place, alias_tested, known_cell, known_name}
use Rattle.plan_law.proofs.Agree.{left, agrees, IsWeight, last_weight}
use Rattle.plan_law.proofs.Steps.{last_get, Placed, Fine, combined, right, Next, Step, step_databases, step_relations, step_attributes, step_values}
use Rattle.plan_law.proofs.TupleStep.{FoldsText, step_tuples}
use Rattle.operator_law.specs.Bags.{weigh}
use Rattle.operator_law.proofs.Weights.{weigh-flat_map}

pub variable_before : (q : Query) (k i : ℕ) → is_text_variable (take k q.decls) i ≡ true → (d : Range) × (i < k) × (slice_get q.decls i ≡ Some d) × (is_text_variable q.decls i ≡ true) × (lists_tuples d ≡ false)
variable_before q k i e =
    let t = text_declared (take k q.decls) i e in
    let b = before_place q.decls k i t.0 t.1 in
    (t.0, b.0, b.1, ap (λ (o : Option Range). option_map_or (λ d. not (lists_tuples d)) o false) b.1 ∙ ap not t.2, t.2)

pub placed : (q : Query) (v : Valuation) (x : Combo) (k : ℕ) (p : Place) → length v ≡ k → Owns q v x → has_text (take k q.decls) p ≡ true → Placed q v p
placed q v x k (place.Fixed t) size owns e = record { text = t; value = refl; is = refl; column = tt }
placed q v x k (place.Var i) size owns e =
    let b = variable_before q k i e in
    let there : i < length v = omega (arith, b.1) in
    let h = value b.0 b.2 b.4 (owns.each i b.0 there b.2) in
    record { text = h.0; value = h.1; is = h.1; column = b.3 }
  where
    value : (d : Range) → slice_get q.decls i ≡ Some d → lists_tuples d ≡ false → Stands q v x i d → (s : Text) × (value_of v (term.Var i) ≡ Some s)
    value range.Databases e t h = (h.text, h.value)
    value (range.Relations p) e t h = (h.text, h.value)
    value (range.Attributes p r) e t h = (h.text, h.value)
    value (range.Values p r a) e t h = (h.text, h.value)
    value (range.Tuples p r) e t h = cc
    value (range.Alias j a) e t h = (h.text, h.value)

last_place : (v : Valuation) (e : Element) (k i : ℕ) → length v ≡ k → i < length (v ++ e ∷ []) → (i < length v) ⊎ (i ≡ k)
last_place v e k i size less =
    let n : length (v ++ e ∷ []) ≡ length v + 1 = length-append v (e ∷ []) in
    one (cases_lt i (length v)) n
  where
    one : (i < length v) ⊎ (length v ≤ i) → length (v ++ e ∷ []) ≡ length v + 1 → (i < length v) ⊎ (i ≡ k)
    one (inl a) n = inl a
    one (inr b) n = inr (omega arith)

pub size_more : (v : Valuation) (e : Element) (k : ℕ) → length v ≡ k → length (v ++ e ∷ []) ≡ suc k
size_more v e k size = omega (arith, length-append v (e ∷ []))

owns_more : (q : Query) (v : Valuation) (x o : Combo) (e : Element) (k : ℕ) (d : Range) → length v ≡ k → slice_get q.decls k ≡ Some d → Owns q v x → Stands q (v ++ e ∷ []) (x ++ o) k d → Fine q o → Owns q (v ++ e ∷ []) (x ++ o)
owns_more q v x o e k d size at owns stands fine = record {
  each = λ i d' less is. one i d' is (last_place v e k i size less);
  terms = λ t s m. either t s (has_either x o (t, s) m);
}
  where
    same : (o : Option Range) (d d' : Range) → o ≡ Some d → o ≡ Some d' → d ≡ d'
    same o d d' a b = cc

    one : (i : ℕ) (d' : Range) → slice_get q.decls i ≡ Some d' → (i < length v) ⊎ (i ≡ k) → Stands q (v ++ e ∷ []) (x ++ o) i d'
    one i d' is (inl less) = stands_more q v (e ∷ []) x o i d' (owns.each i d' less is)
    one i d' is (inr here) =
        let f : d ≡ d' = same (slice_get q.decls k) d d' at (sym (ap (slice_get q.decls) here) ∙ is) in
        subst (λ (i : ℕ). Stands q (v ++ e ∷ []) (x ++ o) i d') (sym here) (subst (λ (d : Range). Stands q (v ++ e ∷ []) (x ++ o) k d) f stands)

    either : (t : Term) (s : Text) → Has x (t, s) ⊎ Has o (t, s) → IsColumn q t
    either t s (inl m) = owns.terms t s m
    either t s (inr m) = fine t s m

-- what begins with an inconsistent combination is inconsistent
pub none_consistent : (q : Query) (g : Reading → ℕ) (x : Combo) (more : List (List Combo)) → is_consistent q x ≡ false → weigh (λ y. cond (is_consistent q y) (g (read q y)) 0) (combined x more) ≡ 0
none_consistent q g x [] e = let d : cond (is_consistent q x) (g (read q x)) 0 ≡ 0 = rw e refl in omega (arith, d)
none_consistent q g x (ys ∷ more) e =
    weigh-flat_map _ (λ y. combined (x ++ y) more) ys
    ∙ weigh-zero _ (λ y. none_consistent q g (x ++ y) more (longer y (is_consistent q (x ++ y)) refl)) ys
  where
    longer : (y : Combo) (b : Bool) → is_consistent q (x ++ y) ≡ b → b ≡ false
    longer y true is = let d = consistent_start q x y is in cc
    longer y false is = refl

module _ (c : CatalogueValue) (sound : IsSound c) (q : Query) (fits : Fits q) (g : Reading → ℕ) (weight : IsWeight q g) where
  abbrev known : ℕ → Place → Bool
  known k p = has_text (take k q.decls) p

  folds : FoldsText q
  folds k u h = (fits.cells k (place.Var u) h).1

  -- from place k on
  abbrev At : ℕ → List Range → Type 0
  At k ds = (i : ℕ) → slice_get q.decls (i + k) ≡ slice_get ds i

  at_here : (k : ℕ) (d : Range) (ds : List Range) → At k (d ∷ ds) → slice_get q.decls k ≡ Some d
  at_here k d ds at = ap (slice_get q.decls) (zero_plus k) ∙ at 0
    where
      zero_plus : (k : ℕ) → k ≡ 0 + k
      zero_plus k = omega arith

  at_more : (k : ℕ) (d : Range) (ds : List Range) → At k (d ∷ ds) → At (suc k) ds
  at_more k d ds at i = ap (slice_get q.decls) (shift i k) ∙ at (suc i)
    where
      shift : (i k : ℕ) → i + suc k ≡ suc i + k
      shift i k = omega arith

  at_end : (v : Valuation) (k : ℕ) → length v ≡ k → At k [] → (i : ℕ) (d : Range) → slice_get q.decls i ≡ Some d → i < length v
  at_end v k size at i d is = one (cases_lt i (length v))
    where
      one : (i < length v) ⊎ (length v ≤ i) → i < length v
      one (inl a) = a
      one (inr b) =
          let s : (i - k) + k ≡ i = omega arith in
          let none : slice_get q.decls i ≡ None = sym (ap (slice_get q.decls) s) ∙ at (i - k) in
          cc

  -- an alias
  module _ (v : Valuation) (x : Combo) (k j : ℕ) (a : Place) (size : length v ≡ k) (at : slice_get q.decls k ≡ Some (range.Alias j a)) (owns : Owns q v x) where
    abbrev over : is_range_over (take k q.decls) (range.Alias j a) ≡ true
    over = fits.ranges k (range.Alias j a) at

    alias_there : j < length v
    alias_there =
        let t = tuple_declared (take k q.decls) j (and_left (is_tuple_variable (take k q.decls) j) (known k a) over) in
        omega (arith, (before_place q.decls k j (range.Tuples t.0 t.1) t.2).0)

    alias_reads : is_consistent q x ≡ true → Reads q v x (term.Cell j a)
    alias_reads holds =
        known_cell q fits v x owns holds j a (alias_tested q k j a at) alias_there (λ u is.
        let b = variable_before q k u (sym (ap (has_text (take k q.decls)) is) ∙ and_right (is_tuple_variable (take k q.decls) j) (known k a) over) in
        known_name q fits v x owns holds k u b.1 (omega (arith, b.1)) b.3)

    not_consistent : cell_at v j a ≡ None → is_consistent q x ≡ false
    not_consistent none = one (is_consistent q x) refl
      where
        one : (b : Bool) → is_consistent q x ≡ b → b ≡ false
        one false e = refl
        one true e = let r = alias_reads e in let d : cell_at v j a ≡ Some r.text = r.value in cc

    alias_owns : (s : Text) → cell_at v j a ≡ Some s → Owns q (v ++ A_text s ∷ []) x
    alias_owns s is = subst (λ (y : Combo). Owns q (v ++ A_text s ∷ []) y) (append-nil x) (owns_more q v x [] (A_text s) k (range.Alias j a) size at owns aliased (λ t s m. absurd m))
      where
        aliased : IsAliased (v ++ A_text s ∷ []) k j a
        aliased = record { text = s; value = ap (option_and_then text_of) (last_get v (A_text s) k size); cell = cell_more v (A_text s ∷ []) j a s is }

  abbrev List-at : List Range → Type 0
  List-at ds = (v : Valuation) (x : Combo) (k : ℕ) → length v ≡ k → At k ds → Owns q v x → left c g v x ds ≡ right c sound q g weight x (bases_from c q k ds)

  next_of : (d : Range) (ds : List Range) → List-at ds → (v : Valuation) (x : Combo) (k : ℕ) → (size : length v ≡ k) → At k (d ∷ ds) → Owns q v x → Next c sound q g weight v x k size ds (bases_from c q (suc k) ds) d
  next_of d ds rest v x k size at owns e o stands fine =
      rest (v ++ e ∷ []) (x ++ o) (suc k) (size_more v e k size) (at_more k d ds at) (owns_more q v x o e k d size (at_here k d ds at) owns stands fine)

  whole_step : (d : Range) (ds : List Range) (v : Valuation) (x : Combo) (k : ℕ) → (size : length v ≡ k) → Step c sound q g weight v x k size ds (bases_from c q (suc k) ds) d → left c g v x (d ∷ ds) ≡ right c sound q g weight x (columns c q k d ∷ bases_from c q (suc k) ds)
  whole_step d ds v x k size step =
      weigh-flat_map _ (λ e. assignments c (v ++ e ∷ []) ds) (elements c v d)
      ∙ step
      ∙ sym (weigh-flat_map _ (λ y. combined (x ++ y) (bases_from c q (suc k) ds)) (columns c q k d))

  place_of : (v : Valuation) (x : Combo) (k : ℕ) (p : Place) → length v ≡ k → Owns q v x → known k p ≡ true → Placed q v p
  place_of v x k p size owns e = placed q v x k p size owns e

  list_alias : (j : ℕ) (a : Place) (ds : List Range) → List-at ds → List-at (range.Alias j a ∷ ds)
  list_alias j a ds rest v x k size at owns = one (cell_at v j a) refl
    where
      here : slice_get q.decls k ≡ Some (range.Alias j a)
      here = at_here k (range.Alias j a) ds at

      one : (o : Option Text) → cell_at v j a ≡ o → left c g v x (range.Alias j a ∷ ds) ≡ right c sound q g weight x (bases_from c q (suc k) ds)
      one None is =
          weigh-flat_map _ (λ e. assignments c (v ++ e ∷ []) ds) (elements c v (range.Alias j a))
          ∙ ap (λ (o : Option Text). weigh (λ e. left c g (v ++ e ∷ []) x ds) (map A_text (option_to_list o))) is
          ∙ sym (none_consistent q g x (bases_from c q (suc k) ds) (not_consistent v x k j a size here owns is))
      one (Some s) is =
          weigh-flat_map _ (λ e. assignments c (v ++ e ∷ []) ds) (elements c v (range.Alias j a))
          ∙ ap (λ (o : Option Text). weigh (λ e. left c g (v ++ e ∷ []) x ds) (map A_text (option_to_list o))) is
          ∙ add-zero (left c g (v ++ A_text s ∷ []) x ds)
          ∙ rest (v ++ A_text s ∷ []) x (suc k) (size_more v (A_text s) k size) (at_more k (range.Alias j a) ds at) (alias_owns v x k j a size here owns s is)

  -- from any declaration on
  pub listing : (ds : List Range) → List-at ds
  listing [] v x k size at owns =
      add-zero (cond (agrees v x) (g (value_of v)) 0)
      ∙ last_weight q fits v x owns (at_end v k size at) g weight
      ∙ sym (add-zero (cond (is_consistent q x) (g (read q x)) 0))
  listing (range.Alias j a ∷ ds) v x k size at owns = list_alias j a ds (listing ds) v x k size at owns
  listing (range.Databases ∷ ds) v x k size at owns =
      whole_step range.Databases ds v x k size (step_databases c sound q g weight v x k size ds (bases_from c q (suc k) ds) (at_here k range.Databases ds at) (next_of range.Databases ds (listing ds) v x k size at owns))
  listing (range.Relations p ∷ ds) v x k size at owns =
      let here = at_here k (range.Relations p) ds at in
      whole_step (range.Relations p) ds v x k size (step_relations c sound q g weight v x k size ds (bases_from c q (suc k) ds) p here (place_of v x k p size owns (fits.ranges k (range.Relations p) here)) (next_of (range.Relations p) ds (listing ds) v x k size at owns))
  listing (range.Attributes p r ∷ ds) v x k size at owns =
      let here = at_here k (range.Attributes p r) ds at in
      let over = fits.ranges k (range.Attributes p r) here in
      let P = place_of v x k p size owns (and_left (known k p) (known k r) over) in
      let R = place_of v x k r size owns (and_right (known k p) (known k r) over) in
      whole_step (range.Attributes p r) ds v x k size (step_attributes c sound q g weight v x k size ds (bases_from c q (suc k) ds) p r P R here (next_of (range.Attributes p r) ds (listing ds) v x k size at owns))
  listing (range.Tuples p r ∷ ds) v x k size at owns =
      let here = at_here k (range.Tuples p r) ds at in
      let over = fits.ranges k (range.Tuples p r) here in
      let P = place_of v x k p size owns (and_left (known k p) (known k r) over) in
      let R = place_of v x k r size owns (and_right (known k p) (known k r) over) in
      whole_step (range.Tuples p r) ds v x k size (step_tuples c sound q folds g weight v x k size ds (bases_from c q (suc k) ds) p r P R (next_of (range.Tuples p r) ds (listing ds) v x k size at owns))
  listing (range.Values p r a ∷ ds) v x k size at owns =
      let here = at_here k (range.Values p r a) ds at in
      let over = fits.ranges k (range.Values p r a) here in
      let front = and_left (known k p && known k r) (known k a) over in
      let P = place_of v x k p size owns (and_left (known k p) (known k r) front) in
      let R = place_of v x k r size owns (and_right (known k p) (known k r) front) in
      let A = place_of v x k a size owns (and_right (known k p && known k r) (known k a) over) in
      whole_step (range.Values p r a) ds v x k size (step_values c sound q g weight v x k size ds (bases_from c q (suc k) ds) p r P R a A here (next_of (range.Values p r a) ds (listing ds) v x k size at owns))

  -- all valuations, and all combinations
  pub listed : weigh (λ v. g (value_of v)) (assignments c [] q.decls) ≡ weigh (λ y. cond (is_consistent q y) (g (read q y)) 0) (combined [] (bases c q))
  listed = listing q.decls [] [] 0 refl (λ i. ap (slice_get q.decls) (add-zero i)) nothing
    where
      nothing : Owns q [] []
      nothing = record { each = λ i d less is. absurd (omega arith); terms = λ t s m. absurd m }
