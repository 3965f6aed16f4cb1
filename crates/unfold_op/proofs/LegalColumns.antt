-- Where no label is illegal each column that a fact names is legal, and so are the labels of fewer facts.
use Rattle.std.proofs.Common.{◌≡◌, ◌∷◌, [], List, Option, Some, None, Bool, true, false, cond, refl, ap, filter, map, not}
use Rattle.std.specs.Prelude.{◌||◌, option_map}
use Rattle.std.specs.List.{cons_option}
use Rattle.std.specs.Option.{option_map_or}
use Rattle.std.specs.declared.cmp.Ordering.{Ordering}
use Rattle.std.specs.declared.cmp.Ordering.TheVariants.{Less, Equal, Greater}
use Rattle.ss_text.specs.Texts.{Text, Row, text_eq, text_cmp}
use Rattle.ss_text.specs.Label.{is_table_label, is_column_label}
use Rattle.ss_text.specs.Ascending.{least, lesser, by_order}
use Rattle.ss_text.proofs.KeyLemmas.{text_order, equal_is}
use Rattle.flow_law.specs.declared.refused.IllegalLabel.{IllegalLabel}
use Rattle.flow_law.specs.Facts.{Fact, Pair, pair_cmp, pairs_of, illegal_table, illegal_column}
use Rattle.unfold_op.specs.Touched.{has_column}

no_lesser : {A : Type 0} (R : A → A → Ordering) (x : A) (o : Option A) → lesser R x o ≡ None → ⊥
no_lesser R x None e = cc
no_lesser R x (Some y) e = by_case (R x y) e
  where
    by_case : (r : Ordering) → by_order r (Some x) (Some x) (Some y) ≡ None → ⊥
    by_case Less h = cc
    by_case Equal h = cc
    by_case Greater h = cc

none_least : {A : Type 0} (R : A → A → Ordering) (xs : List A) → least R xs ≡ None → xs ≡ []
none_least R [] h = refl
none_least R (x ∷ xs) h = absurd (no_lesser R x (least R xs) h)

none_mapped : {A B : Type 0} (f : A → B) (o : Option A) → option_map f o ≡ None → o ≡ None
none_mapped f None h = refl
none_mapped f (Some x) h = absurd (cc)

module _ (constants : Row) where
  abbrev bad : Pair → Bool
  bad p = not (is_column_label p.1 constants)

  -- a column of facts whose bad columns are none
  none_bad : (fs : List Fact) (column : Text) → filter bad (pairs_of fs) ≡ [] → has_column fs column ≡ true → is_column_label column constants ≡ true
  none_bad [] column none has = absurd (cc)
  none_bad (f ∷ fs) column none has = by_cell f.cell none has (λ n h. none_bad fs column n h)
    where
      by_pair : (c : Text × Text) (b : Bool) → is_column_label c.0 constants ≡ b → filter bad ((f.label, c.0) ∷ pairs_of fs) ≡ [] → (b ≡ true) × (filter bad (pairs_of fs) ≡ [])
      by_pair c true e h = (refl, (rw e at h))
      by_pair c false e h = absurd (let g = rw e at h in cc)

      by_same : (c : Text × Text) (t : Bool) → text_eq column c.0 ≡ t → (is_column_label c.0 constants ≡ true) → (t || has_column fs column) ≡ true → (has_column fs column ≡ true → is_column_label column constants ≡ true) → is_column_label column constants ≡ true
      by_same c true e legal h more = rw (equal_is text_order column c.0 e) legal
      by_same c false e legal h more = more h

      by_cell : (o : Option (Text × Text)) → filter bad (cons_option (option_map (λ c. let p : Pair = (f.label, c) in p) (option_map (λ (c : Text × Text). c.0) o)) (pairs_of fs)) ≡ [] → (option_map_or (λ (c : Text × Text). text_eq column c.0) o false || has_column fs column) ≡ true
          → (filter bad (pairs_of fs) ≡ [] → has_column fs column ≡ true → is_column_label column constants ≡ true) → is_column_label column constants ≡ true
      by_cell None none has more = more none has
      by_cell (Some c) none has more =
          let both = by_pair c (is_column_label c.0 constants) refl none in
          by_same c (text_eq column c.0) refl both.0 has (more both.1)

  pub legal_columns : (fs : List Fact) → illegal_column constants fs ≡ None → (column : Text) → has_column fs column ≡ true → is_column_label column constants ≡ true
  legal_columns fs none column has = none_bad fs column (none_least pair_cmp _ (none_mapped _ _ none)) has

  -- facts without one still have no illegal column
  bad_behind : (f : Fact) (fs : List Fact) → filter bad (pairs_of (f ∷ fs)) ≡ [] → filter bad (pairs_of fs) ≡ []
  bad_behind f fs none = by_cell f.cell none
    where
      by_pair : (p : Pair) (b : Bool) → cond b (p ∷ filter bad (pairs_of fs)) (filter bad (pairs_of fs)) ≡ [] → filter bad (pairs_of fs) ≡ []
      by_pair p true e = absurd (cc)
      by_pair p false e = e

      by_cell : (o : Option (Text × Text)) → filter bad (cons_option (option_map (λ c. let p : Pair = (f.label, c) in p) (option_map (λ (c : Text × Text). c.0) o)) (pairs_of fs)) ≡ [] → filter bad (pairs_of fs) ≡ []
      by_cell None e = e
      by_cell (Some c) e = by_pair (f.label, c.0) (bad (f.label, c.0)) e

  pub legal_behind : (f : Fact) (fs : List Fact) → illegal_column constants (f ∷ fs) ≡ None → illegal_column constants fs ≡ None
  legal_behind f fs none =
      let as_label : Pair → IllegalLabel = λ p. record { table = p.0; column = Some p.1 } in
      ap (λ (ps : List Pair). option_map as_label (least pair_cmp ps)) (bad_behind f fs (none_least pair_cmp _ (none_mapped _ _ none)))

-- nor an illegal table
pub tables_behind : (f : Fact) (fs : List Fact) → illegal_table (f ∷ fs) ≡ None → illegal_table fs ≡ None
tables_behind f fs none =
    let as_label : Text → IllegalLabel = λ t. record { table = t; column = None } in
    ap (λ (ts : List Text). option_map as_label (least text_cmp ts)) (by_test (is_table_label f.label) (none_least text_cmp _ (none_mapped _ _ none)))
  where
    bad_tables : List Text
    bad_tables = filter (λ (t : Text). not (is_table_label t)) (map (λ (g : Fact). g.label) fs)

    by_test : (b : Bool) → cond (not b) (f.label ∷ bad_tables) bad_tables ≡ [] → bad_tables ≡ []
    by_test true e = e
    by_test false e = absurd (cc)
