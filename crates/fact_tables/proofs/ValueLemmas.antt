-- The least value of a column, among facts whose cells ascend.
use Rattle.std.proofs.Common.{◌≡◌, ◌≤◌, ℕ, zero, suc, Bool, true, false, cond, List, [], ◌∷◌, ◌++◌, take, drop, length, Option, Some, None, refl, sym, ap, subst, ◌∙◌, take-append-drop}
use Rattle.std.specs.Prelude.{not, ◌==◌, filter, slice_get, option_and_then, if◌then◌else◌}
use Rattle.std.specs.declared.cmp.Ordering.{Ordering}
use Rattle.std.specs.declared.cmp.Ordering.TheVariants.{Less, Equal, Greater}
use Rattle.std.specs.List.{AllByRecursion, filter_map, cons_option}
use Rattle.std.specs.List.Sorted.{IsStrictlySortedBy, IsPartitionPoint}
use Rattle.std.specs.Ordering.{is_gt, on, ordering_then}
use Rattle.std.proofs.lemmas.Cmp.{tied_itself}
use Rattle.std.specs.Cmp.Lexicographic.{nat_list_cmp_total}
use Rattle.ss_text.specs.Texts.{Text, text_cmp, text_eq}
use Rattle.ss_text.specs.Ascending.{least}
use Rattle.ss_text.proofs.KeyLemmas.{text_order, equal_is, equal_itself}
use Rattle.ss_text.proofs.GroupLemmas.{least_of_first, all_weaker, all_taken, all_dropped, strict_drop}
use Rattle.flow_law.specs.Facts.{Fact, value_in}
use Rattle.flow_law.proofs.Entries.{some_length}
use Rattle.flow_law.specs.FactOrder.{cell_cmp}
use Rattle.fact_tables.specs.Cells.{values_for, is_past}

empty_only : (v : Text) → is_gt (text_cmp v []) ≡ false → length v == 0 ≡ true
empty_only [] h = refl
empty_only (b ∷ bs) h = absurd (cc)

not_empty : (v : Text) → is_gt (text_cmp v []) ≡ true → not (length v == 0) ≡ true
not_empty [] h = absurd (cc)
not_empty (b ∷ bs) h = some_length (length bs)

-- a cell of the column itself is past its empty value where it has another value
pub past_by_value : (named value column : Text) → text_cmp named column ≡ Equal → not (length value == 0) ≡ is_gt (ordering_then (text_cmp named column) (text_cmp value []))
past_by_value named [] column e = rw e refl
past_by_value named (b ∷ bs) column e = rw e (some_length (length bs))

Cell : Type 0
Cell = Option (Text × Text)

module _ (column : Text) where
  -- the value of a cell, where it is of the column
  abbrev of_column : Option (Text × Text) → Option Text
  of_column cell = option_and_then (λ (c : Text × Text). if text_eq column c.0 then Some c.1 else None) cell

  abbrev kept : List Text → List Text
  kept vs = filter (λ (v : Text). not (length v == 0)) vs

  none_kept : (cell : Option (Text × Text)) (vs : List Text) → is_gt (cell_cmp cell (Some (column, []))) ≡ false → kept (cons_option (of_column cell) vs) ≡ kept vs
  none_kept None vs h = refl
  none_kept (Some c) vs h = by_test (text_eq column c.0) refl
    where
      by_test : (b : Bool) → text_eq column c.0 ≡ b → kept (cons_option (if b then Some c.1 else None) vs) ≡ kept vs
      by_test true e =
          let at : text_cmp c.0 column ≡ Equal = rw (← equal_is text_order column c.0 e) (tied_itself nat_list_cmp_total column) in
          let small : is_gt (text_cmp c.1 []) ≡ false = rw at at h in
          rw (empty_only c.1 small) refl
      by_test false e = refl

  pub before : (fs gs : List Fact) → AllByRecursion (λ (f : Fact). is_past column f ≡ false) fs → values_for (fs ++ gs) column ≡ values_for gs column
  before [] gs h = refl
  before (f ∷ fs) gs h = none_kept f.cell (filter_map (value_in column) (fs ++ gs)) h.0 ∙ before fs gs h.1

  -- behind a cell of the column: greater values of it alone
  greater_kept : (v : Text) (cell : Option (Text × Text)) (vs : List Text) → cell_cmp (Some (column, v)) cell ≡ Less → AllByRecursion (λ (w : Text). text_cmp v w ≡ Less) (kept vs)
      → AllByRecursion (λ (w : Text). text_cmp v w ≡ Less) (kept (cons_option (of_column cell) vs))
  greater_kept v None vs e h = h
  greater_kept v (Some c) vs e h = by_test (text_eq column c.0) refl
    where
      by_length : (b : Bool) → text_cmp v c.1 ≡ Less → AllByRecursion (λ (w : Text). text_cmp v w ≡ Less) (cond b (c.1 ∷ kept vs) (kept vs))
      by_length true less = (less, h)
      by_length false less = h

      by_test : (b : Bool) → text_eq column c.0 ≡ b → AllByRecursion (λ (w : Text). text_cmp v w ≡ Less) (kept (cons_option (if b then Some c.1 else None) vs))
      by_test true f =
          let at : text_cmp column c.0 ≡ Equal = rw (← equal_is text_order column c.0 f) (tied_itself nat_list_cmp_total column) in
          by_length (not (length c.1 == 0)) (rw at at e)
      by_test false f = h

  all_greater : (v : Text) (fs : List Fact) → AllByRecursion (λ (g : Fact). cell_cmp (Some (column, v)) g.cell ≡ Less) fs → AllByRecursion (λ (w : Text). text_cmp v w ≡ Less) (values_for fs column)
  all_greater v [] h = tt
  all_greater v (g ∷ gs) h = greater_kept v g.cell (filter_map (value_in column) gs) h.0 (all_greater v gs h.1)

  -- behind a cell of a greater column: none of it
  none_behind : (c : Text × Text) (cell : Option (Text × Text)) → text_cmp c.0 column ≡ Greater → cell_cmp (Some c) cell ≡ Less → of_column cell ≡ None
  none_behind c None e h = absurd (cc)
  none_behind c (Some d) e h = by_test (text_eq column d.0) refl
    where
      by_test : (b : Bool) → text_eq column d.0 ≡ b → (if b then Some d.1 else None) ≡ None
      by_test true f =
          let past : text_cmp c.0 d.0 ≡ Greater = rw (← equal_is text_order column d.0 f) e in
          absurd (cc (rw past at h))
      by_test false f = refl

  all_none : (c : Text × Text) (fs : List Fact) → text_cmp c.0 column ≡ Greater → AllByRecursion (λ (g : Fact). cell_cmp (Some c) g.cell ≡ Less) fs → filter_map (value_in column) fs ≡ []
  all_none c [] e h = refl
  all_none c (g ∷ gs) e h = rw (none_behind c g.cell e h.0) (all_none c gs e h.1)

  -- the first fact that is past
  first_past : (cell : Option (Text × Text)) (fs : List Fact) → is_gt (cell_cmp cell (Some (column, []))) ≡ true → AllByRecursion (λ (g : Fact). cell_cmp cell g.cell ≡ Less) fs
      → of_column cell ≡ least text_cmp (kept (cons_option (of_column cell) (filter_map (value_in column) fs)))
  first_past None fs h after = absurd (cc)
  first_past (Some c) fs h after = by_test (text_eq column c.0) refl
    where
      greater : (r s : Ordering) → text_eq column c.0 ≡ false → text_cmp c.0 column ≡ r → is_gt (ordering_then r s) ≡ true → r ≡ Greater
      greater Less s f e g = absurd (cc)
      greater Equal s f e g = absurd (cc (rw (text_order.same c.0 column e, equal_itself text_order column) at f))
      greater Greater s f e g = refl

      by_test : (b : Bool) → text_eq column c.0 ≡ b → (if b then Some c.1 else None) ≡ least text_cmp (kept (cons_option (if b then Some c.1 else None) (filter_map (value_in column) fs)))
      by_test true f =
          let at : text_cmp c.0 column ≡ Equal = rw (← equal_is text_order column c.0 f) (tied_itself nat_list_cmp_total column) in
          let large : is_gt (text_cmp c.1 []) ≡ true = rw at at h in
          let same : c ≡ (column, c.1) = ap (λ (t : Text). (t, c.1)) (sym (equal_is text_order column c.0 f)) in
          rw (not_empty c.1 large) (sym (least_of_first text_cmp c.1 (values_for fs column) (all_greater c.1 fs (subst (λ (d : Text × Text). AllByRecursion (λ (g : Fact). cell_cmp (Some d) g.cell ≡ Less) fs) same after))))
      by_test false f = rw (all_none c fs (greater (text_cmp c.0 column) (text_cmp c.1 []) f refl h) after) refl

  at_first : (gs : List Fact) → IsStrictlySortedBy (on (λ (f : Fact). f.cell) cell_cmp) gs → AllByRecursion (λ (g : Fact). not (is_past column g) ≡ false) gs
      → option_and_then (value_in column) (slice_get gs 0) ≡ least text_cmp (values_for gs column)
  unfolding IsStrictlySortedBy
  at_first [] s h = refl
  at_first (g ∷ gs) s h = first_past g.cell gs (is_true (is_past column g) h.0) s.0
    where
      is_true : (b : Bool) → not b ≡ false → b ≡ true
      is_true true e = refl
      is_true false e = absurd (cc)

  -- the value at the place where the cells pass the empty value of the column
  pub found : (fs : List Fact) (n : ℕ) → IsStrictlySortedBy (on (λ (f : Fact). f.cell) cell_cmp) fs → n ≤ length fs
      → IsPartitionPoint (λ (f : Fact). not (is_past column f) ≡ true) (λ (f : Fact). not (is_past column f) ≡ false) fs n
      → option_and_then (value_in column) (slice_get fs n) ≡ least text_cmp (values_for fs column)
  found fs n s bound parts =
      let early : AllByRecursion (λ (f : Fact). is_past column f ≡ false) (take n fs) =
      all_weaker (λ (f : Fact). not (is_past column f) ≡ true) _ (λ f h. is_false (is_past column f) h) (take n fs) (all_taken _ fs n parts.0 bound) in
      let here = at_first (drop n fs) (strict_drop (on (λ (f : Fact). f.cell) cell_cmp) n fs s) (all_dropped _ fs n parts.1) in
      ap (option_and_then (value_in column)) (slice_get_dropped fs n) ∙ here
      ∙ ap (least text_cmp) (sym (before (take n fs) (drop n fs) early)) ∙ ap (λ (gs : List Fact). least text_cmp (values_for gs column)) (take-append-drop n fs)
    where
      is_false : (b : Bool) → not b ≡ true → b ≡ false
      is_false true e = absurd (cc)
      is_false false e = refl

      slice_get_dropped : (gs : List Fact) (k : ℕ) → slice_get gs k ≡ slice_get (drop k gs) 0
      slice_get_dropped [] zero = refl
      slice_get_dropped [] (suc k) = refl
      slice_get_dropped (g ∷ gs) zero = refl
      slice_get_dropped (g ∷ gs) (suc k) = slice_get_dropped gs k
