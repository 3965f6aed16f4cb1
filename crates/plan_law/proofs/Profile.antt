-- A view of the profile fits the plan.
use Rattle.std.proofs.Common.{◌≡◌, ◌⊎◌, inl, inr, subst, ℕ, suc, zero, List, [], ◌∷◌, ◌++◌, take, true, false, not, refl, arith, ap, sym, ◌∙◌, Option, Some, append_assoc, append-nil}
use Rattle.std.specs.Prelude.{Contains, flat_map, filter_map}
use Rattle.std.specs.List.{slice_get}
use Rattle.std.specs.Option.{option_map_or}
use Rattle.std.proofs.lemmas.List.Elements.{Contains-append_left, Contains-append_right}
use Rattle.plan_law.specs.Kinds.{Place, Term, Range}
use Rattle.plan_law.specs.Kinds.place
use Rattle.plan_law.specs.Kinds.term
use Rattle.plan_law.specs.Kinds.range
use Rattle.view_def.specs.Query.{Query}
use Rattle.view_def.specs.Terms.{terms_of_view}
use Rattle.view_def.specs.Profile.{lists_tuples, is_tuple_variable, is_text_variable, has_text, is_range_over, are_ranges_after, is_term_over, is_label_over, is_column_over, range_folds, term_folds, folds_of_view, IsViewOfProfile}
use Rattle.view_meaning.specs.Meaning.{term_of}
use Rattle.plan_law.specs.Columns.{alias_cell, tested_terms}
use Rattle.plan_law.proofs.Columns.{Has, has_either, has_from, and_left, and_right, all_has}
use Rattle.plan_law.proofs.Held.{IsColumn, Fits}
use Rattle.plan_law.proofs.Known.{text_declared, tuple_declared, before_place}

-- one element among others

contains_flat : {X Y : Type 0} (f : X → List Y) (xs : List X) (x : X) (y : Y) → Has xs x → Contains (f x) y → Contains (flat_map f xs) y
contains_flat f [] x y m c = absurd m
contains_flat f (z ∷ xs) x y (inl e) c = Contains-append_left (f z) (flat_map f xs) y (subst (λ x. Contains (f x) y) (sym e) c)
contains_flat f (z ∷ xs) x y (inr m) c = Contains-append_right (f z) (flat_map f xs) y (contains_flat f xs x y m c)

range_over : (ds before : List Range) (i : ℕ) (d : Range) → are_ranges_after before ds ≡ true → slice_get ds i ≡ Some d → is_range_over (before ++ take i ds) d ≡ true
range_over [] before i d e at = cc
range_over (x ∷ ds) before zero d e at =
    let same : x ≡ d = cc in
    ap (λ bs. is_range_over bs d) (append-nil before) ∙ sym (ap (is_range_over before) same) ∙ and_left (is_range_over before x) (are_ranges_after (before ++ x ∷ []) ds) e
range_over (x ∷ ds) before (suc i) d e at =
    ap (λ bs. is_range_over bs d) (sym (append_assoc before (x ∷ []) (take i ds)))
    ∙ range_over ds (before ++ x ∷ []) i d (and_right (is_range_over before x) (are_ranges_after (before ++ x ∷ []) ds) e) at

place_at : {X : Type 0} (xs : List X) (x : X) → Has xs x → (i : ℕ) × (slice_get xs i ≡ Some x)
place_at [] x m = absurd m
place_at (y ∷ xs) x (inl e) = (0, ap Some e)
place_at (y ∷ xs) x (inr m) = let r = place_at xs x m in (suc r.0, r.1)

module _ (q : Query) (h : IsViewOfProfile q) where
  pub ranges : (i : ℕ) (d : Range) → slice_get q.decls i ≡ Some d → is_range_over (take i q.decls) d ≡ true
  ranges i d at = range_over q.decls [] i d h.ranges at

  text_from : (i u : ℕ) → is_text_variable (take i q.decls) u ≡ true → is_text_variable q.decls u ≡ true
  text_from i u e =
      let d = text_declared (take i q.decls) u e in
      ap (λ (o : Option Range). option_map_or (λ d. not (lists_tuples d)) o false) (before_place q.decls i u d.0 d.1).1 ∙ ap not d.2

  tuple_from : (i k : ℕ) → is_tuple_variable (take i q.decls) k ≡ true → is_tuple_variable q.decls k ≡ true
  tuple_from i k e =
      let d = tuple_declared (take i q.decls) k e in
      ap (λ (o : Option Range). option_map_or lists_tuples o false) (before_place q.decls i k (range.Tuples d.0 d.1) d.2).1

  place_from : (i : ℕ) (a : Place) → has_text (take i q.decls) a ≡ true → has_text q.decls a ≡ true
  place_from i (place.Fixed t) e = refl
  place_from i (place.Var u) e = text_from i u e

  -- a term that is tested is the cell of an alias or a term of the view
  data Origin (t : Term) : Type 0 where
    of_alias : (i : ℕ) (d : Range) → slice_get q.decls i ≡ Some d → Has q.decls d → alias_cell d ≡ Some t → Origin t
    of_view : Has (terms_of_view q) t → Origin t

  origin : (t : Term) → Has (tested_terms q) t → Origin t
  origin t m = one (has_either (filter_map alias_cell q.decls) (terms_of_view q) t m)
    where
      one : Has (filter_map alias_cell q.decls) t ⊎ Has (terms_of_view q) t → Origin t
      one (inl m) = let d = has_from alias_cell q.decls t m in let p = place_at q.decls d.0 d.1 in of_alias p.0 d.0 p.1 d.1 d.2
      one (inr m) = of_view m

  cells : (k : ℕ) (a : Place) → Has (tested_terms q) (term.Cell k a) → (is_tuple_variable q.decls k ≡ true) × (has_text q.decls a ≡ true)
  cells k a m = one (origin (term.Cell k a) m)
    where
      alias : (i : ℕ) (d : Range) → slice_get q.decls i ≡ Some d → alias_cell d ≡ Some (term.Cell k a) → (is_tuple_variable q.decls k ≡ true) × (has_text q.decls a ≡ true)
      alias i (range.Alias j b) at e =
          let jk : j ≡ k = cc in
          let ba : b ≡ a = cc in
          let over = ranges i (range.Alias j b) at in (
            ap (is_tuple_variable q.decls) (sym jk) ∙ tuple_from i j (and_left (is_tuple_variable (take i q.decls) j) (has_text (take i q.decls) b) over),
            ap (has_text q.decls) (sym ba) ∙ place_from i b (and_right (is_tuple_variable (take i q.decls) j) (has_text (take i q.decls) b) over),
          )
      alias i range.Databases at e = cc
      alias i (range.Relations p) at e = cc
      alias i (range.Attributes p r) at e = cc
      alias i (range.Tuples p r) at e = cc
      alias i (range.Values p r b) at e = cc

      one : Origin (term.Cell k a) → (is_tuple_variable q.decls k ≡ true) × (has_text q.decls a ≡ true)
      one (of_alias i d at m e) = alias i d at e
      one (of_view m) =
          let over = all_has (is_term_over q.decls) (terms_of_view q) (term.Cell k a) h.terms m in
          (and_left (is_tuple_variable q.decls k) (has_text q.decls a) over, and_right (is_tuple_variable q.decls k) (has_text q.decls a) over)

  names : (i : ℕ) → Has (tested_terms q) (term.Var i) → is_text_variable q.decls i ≡ true
  names i m = one (origin (term.Var i) m)
    where
      alias : (d : Range) → alias_cell d ≡ Some (term.Var i) → is_text_variable q.decls i ≡ true
      alias (range.Alias j b) e = cc
      alias range.Databases e = cc
      alias (range.Relations p) e = cc
      alias (range.Attributes p r) e = cc
      alias (range.Tuples p r) e = cc
      alias (range.Values p r b) e = cc

      one : Origin (term.Var i) → is_text_variable q.decls i ≡ true
      one (of_alias j d at m e) = alias d e
      one (of_view m) = all_has (is_term_over q.decls) (terms_of_view q) (term.Var i) h.terms m

  folds : (k u : ℕ) → Has (tested_terms q) (term.Cell k (place.Var u)) → Contains (folds_of_view q) (k, u)
  folds k u m = one (origin (term.Cell k (place.Var u)) m)
    where
      here : Contains {X = ℕ × ℕ} ((k, u) ∷ []) (k, u)
      here = (0, omega arith, refl)

      alias : (d : Range) → alias_cell d ≡ Some (term.Cell k (place.Var u)) → Contains (range_folds d) (k, u)
      alias (range.Alias j b) e =
          let jk : j ≡ k = cc in
          let bu : b ≡ place.Var u = cc in
          rw (jk, bu) here
      alias range.Databases e = cc
      alias (range.Relations p) e = cc
      alias (range.Attributes p r) e = cc
      alias (range.Tuples p r) e = cc
      alias (range.Values p r b) e = cc

      one : Origin (term.Cell k (place.Var u)) → Contains (folds_of_view q) (k, u)
      one (of_alias i d at m e) = Contains-append_left (flat_map range_folds q.decls) (flat_map term_folds (terms_of_view q)) (k, u) (contains_flat range_folds q.decls d (k, u) m (alias d e))
      one (of_view m) = Contains-append_right (flat_map range_folds q.decls) (flat_map term_folds (terms_of_view q)) (k, u) (contains_flat term_folds (terms_of_view q) (term.Cell k (place.Var u)) (k, u) m here)

  label_column : (p : Place) → is_label_over q.decls p ≡ true → IsColumn q (term_of p)
  label_column (place.Fixed t) e = tt
  label_column (place.Var k) e = e

  column_column : (p : Place) → is_column_over q.decls p ≡ true → IsColumn q (term_of p)
  column_column (place.Fixed t) e = cc
  column_column (place.Var k) e = e

  pub profile_fits : Fits q
  profile_fits = record {
    ranges = ranges;
    one_fold = λ k u w a b. h.one_fold k u w (folds k u a) (folds k w b);
    cells = cells;
    names = names;
    label = label_column q.label h.label;
    column = λ p e. column_column p (h.varies p e);
  }
