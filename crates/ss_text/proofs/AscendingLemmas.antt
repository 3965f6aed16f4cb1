-- Lists with the same elements are the same list, once ascending; and what a sort and a removal of repetitions leave is that list.
use Rattle.std.proofs.Common.{◌≡◌, suc, ◌+◌, Bool, true, false, List, [], ◌∷◌, map, length, Some, None, refl, sym, ◌∙◌, ap, subst, cond, arith, get_or}
use native.Mathlib.Numerals.{unary_clauses}
use Rattle.std.specs.Prelude.{T, ◌||◌}
use Rattle.std.specs.declared.cmp.Ordering.{Ordering}
use Rattle.std.specs.declared.cmp.Ordering.TheVariants.{Less, Equal, Greater}
use Rattle.std.specs.FinMap.{put, find, is_sorted, IsAntisymmetric}
use Rattle.std.specs.FinMap.Entries.{by_order as std_by_order, is_sorted-put, find-put, same_entries}
use Rattle.std.specs.List.{list_any, items_where_true}
use Rattle.std.specs.List.Retain.{ReturnsInTurn, IsFiltered, DiffersFromLast}
use Rattle.std.specs.List.{AllByRecursion}
use Rattle.std.specs.List.Sorted.{IsPermutation, IsSorted, IsStrictlySortedBy}
use Rattle.std.proofs.lemmas.List.Sorted.{list_any-IsPermutation}
use Rattle.std.proofs.lemmas.Cmp.{tied_itself}
use Rattle.std.specs.Ordering.{eq_by_cmp, is_lt, is_eq, ordering_reverse}
use Rattle.std.specs.Cmp.{IsTotalOrder}
use Rattle.ss_text.specs.Ascending.{by_order, with_element, ascending}

module _ {A : Type 0} (R : A → A → Ordering) where
  -- the same as a map with nothing at each key
  abbrev pub marked : List A → List (A × Unit {0})
  marked [] = []
  marked (x ∷ xs) = put R x tt (marked xs)

  with_put : (x : A) (es : List (A × Unit {0})) → map (λ (e : A × Unit {0}). e.0) (put R x tt es) ≡ with_element R x (map (λ (e : A × Unit {0}). e.0) es)
  with_put x [] = refl
  with_put x (e ∷ es) =
      elim (R x e.0) as (λ r. map (λ (e : A × Unit {0}). e.0) (std_by_order r ((x, tt) ∷ e ∷ es) ((e.0, tt) ∷ es) (e ∷ put R x tt es)) ≡ by_order r (x ∷ e.0 ∷ map (λ (e : A × Unit {0}). e.0) es) (e.0 ∷ map (λ (e : A × Unit {0}). e.0) es) (e.0 ∷ with_element R x (map (λ (e : A × Unit {0}). e.0) es)))
      [ Less ↦ refl | Equal ↦ refl | Greater ↦ ap (λ m. e.0 ∷ m) (with_put x es) ]

  ascending_is : (xs : List A) → ascending R xs ≡ map (λ (e : A × Unit {0}). e.0) (marked xs)
  ascending_is [] = refl
  ascending_is (x ∷ xs) = ap (with_element R x) (ascending_is xs) ∙ sym (with_put x (marked xs))

  module _ (o : IsTotalOrder R) where
    marked_sorted : (xs : List A) → T (is_sorted R (marked xs))
    marked_sorted [] = tt
    marked_sorted (x ∷ xs) = is_sorted-put R o x tt (marked xs) (marked_sorted xs)

    marked_find : (xs : List A) (q : A) → find R q (marked xs) ≡ cond (list_any (eq_by_cmp R q) xs) (Some tt) None
    marked_find [] q = refl
    marked_find (x ∷ xs) q = find-put R o q x tt (marked xs) ∙ ap (cond (eq_by_cmp R q x) (Some tt)) (marked_find xs q) ∙ joined (eq_by_cmp R q x) (list_any (eq_by_cmp R q) xs)
      where
        joined : (a b : Bool) → cond a (Some (tt {0})) (cond b (Some tt) None) ≡ cond (a || b) (Some tt) None
        joined true b = refl
        joined false b = refl

    -- lists with the same elements
    pub ascending_same : IsAntisymmetric R → (xs ys : List A) → ((q : A) → list_any (eq_by_cmp R q) xs ≡ list_any (eq_by_cmp R q) ys) → ascending R xs ≡ ascending R ys
    ascending_same same xs ys h =
        ascending_is xs ∙ ap (map (λ (e : A × Unit {0}). e.0)) (same_entries R o same (marked xs) (marked ys) (marked_sorted xs) (marked_sorted ys)
        (λ q. marked_find xs q ∙ ap (λ b. cond b (Some tt) None) (h q) ∙ sym (marked_find ys q))) ∙ sym (ascending_is ys)

    -- neighbours of a sorted list that are not the same ascend
    ascends : (x y : A) → is_lt (R x y) ≡ false → is_eq (R x y) ≡ false → R y x ≡ Less
    ascends x y h e = o.antisymm y x ∙ turned (R x y) h e
      where
        turned : (r : Ordering) → is_lt r ≡ false → is_eq r ≡ false → ordering_reverse r ≡ Less
        turned Less h e = absurd (cc)
        turned Equal h e = absurd (cc)
        turned Greater h e = refl

    same_twice : (x : A) (xs ys : List A) → with_element R x xs ≡ x ∷ ys → with_element R x (with_element R x xs) ≡ with_element R x xs
    same_twice x xs ys e = rw (e, tied_itself o x) refl

    tail_sorted : (x : A) (xs : List A) → IsSorted R (x ∷ xs) → IsSorted R xs
    tail_sorted x xs h = λ k d low high.
        let next : is_lt (R (get_or (x ∷ xs) (suc k + 1) d) (get_or (x ∷ xs) (suc k) d)) ≡ false = h (suc k) d (omega arith) (omega arith) in
        simp unary_clauses (simp unary_clauses at next)

    -- the same without the second of two
    second_out : (y x : A) (xs : List A) → IsSorted R (y ∷ x ∷ xs) → x ≡ y → IsSorted R (y ∷ xs)
    second_out y x xs h e = subst (λ (z : A). IsSorted R (z ∷ xs)) e (tail_sorted y (x ∷ xs) h)

    is_equal : (r : Ordering) → is_eq r ≡ true → r ≡ Equal
    is_equal Less h = absurd (cc)
    is_equal Equal h = refl
    is_equal Greater h = absurd (cc)

    module _ (same : IsAntisymmetric R) (E : A → A → Bool) (ties : (x y : A) → E x y ≡ eq_by_cmp R x y) where
      -- after an element that was kept
      kept_after : (y : A) (xs : List A) (bs : List Bool) (q : List A) → IsSorted R (y ∷ xs) → length bs ≡ length xs → ReturnsInTurn (DiffersFromLast E) (y ∷ []) bs xs q → y ∷ items_where_true bs xs ≡ ascending R (y ∷ xs)
      kept_after y [] [] q s n h = refl
      kept_after y [] (b ∷ bs) q s n h = absurd h
      kept_after y (x ∷ xs) [] q s n h = absurd (omega arith)
      kept_after y (x ∷ xs) (true ∷ bs) q s n h =
          let rest = kept_after x xs bs q (tail_sorted y (x ∷ xs) s) (omega arith) (subst (λ (j : List A). ReturnsInTurn (DiffersFromLast E) j bs xs q) h.1.1 h.2) in
          let up = ascends x y (s 0 y (omega arith) (omega arith)) (sym (ties x y) ∙ h.1.0) in
          rw (← rest, up) refl
      kept_after y (x ∷ xs) (false ∷ bs) q s n h =
          let one = same x y (is_equal (R x y) (sym (ties x y) ∙ h.1.0)) in
          let rest = kept_after y xs bs q (second_out y x xs s one) (omega arith) (subst (λ (j : List A). ReturnsInTurn (DiffersFromLast E) j bs xs q) h.1.1 h.2) in
          rest ∙ sym (same_twice y (ascending R xs) (items_where_true bs xs) (sym rest)) ∙ ap (λ (z : A). with_element R y (with_element R z (ascending R xs))) (sym one)

      filtered : (xs ys : List A) → IsSorted R xs → IsFiltered (DiffersFromLast E) [] xs ys → ys ≡ ascending R xs
      filtered [] ys s ([], q, n, h, e) = e
      filtered [] ys s (b ∷ bs, q, n, h, e) = absurd h
      filtered (x ∷ xs) ys s ([], q, n, h, e) = absurd (omega arith)
      filtered (x ∷ xs) ys s (true ∷ bs, q, n, h, e) = e ∙ kept_after x xs bs q s (omega arith) (subst (λ (j : List A). ReturnsInTurn (DiffersFromLast E) j bs xs q) h.1.1 h.2)
      filtered (x ∷ xs) ys s (false ∷ bs, q, n, h, e) = absurd (cc (h.1.0))

      -- sorted, and then each once
      pub sorted_once : (xs ys zs : List A) → IsPermutation xs ys → IsSorted R ys → IsFiltered (DiffersFromLast E) [] ys zs → zs ≡ ascending R xs
      sorted_once xs ys zs p s h = filtered ys zs s h ∙ sym (ascending_same same xs ys (λ q. list_any-IsPermutation (eq_by_cmp R q) xs ys p))

    below_with : (z x : A) (ys : List A) → R z x ≡ Less → AllByRecursion (λ y. R z y ≡ Less) ys → AllByRecursion (λ y. R z y ≡ Less) (with_element R x ys)
    below_with z x [] h b = (h, tt)
    below_with z x (y ∷ ys) h b =
        elim (R x y) as (λ r. AllByRecursion (λ w. R z w ≡ Less) (by_order r (x ∷ y ∷ ys) (y ∷ ys) (y ∷ with_element R x ys))) [
          | Less ↦ (h, b)
          | Equal ↦ b
          | Greater ↦ (b.0, below_with z x ys h b.1)
        ]

    below_more : (x y : A) (ys : List A) → R x y ≡ Less → AllByRecursion (λ z. R y z ≡ Less) ys → AllByRecursion (λ z. R x z ≡ Less) ys
    below_more x y [] h b = tt
    below_more x y (z ∷ zs) h b = (o.trans x y z h b.0, below_more x y zs h b.1)

    with_ascends : (x : A) (ys : List A) → IsStrictlySortedBy R ys → IsStrictlySortedBy R (with_element R x ys)
    unfolding IsStrictlySortedBy
    with_ascends x [] h = (tt, tt)
    with_ascends x (y ∷ ys) h =
        elim (R x y) as (λ r. R x y ≡ r → IsStrictlySortedBy R (by_order r (x ∷ y ∷ ys) (y ∷ ys) (y ∷ with_element R x ys))) [
          | Less ↦ λ e. ((e, below_more x y ys e h.0), h)
          | Equal ↦ λ _. h
          | Greater ↦ λ e. (below_with y x ys (o.antisymm y x ∙ ap ordering_reverse e) h.0, with_ascends x ys h.1)
        ] refl

    -- the elements once each, ascending, do ascend
    pub ascending_ascends : (xs : List A) → IsStrictlySortedBy R (ascending R xs)
    unfolding IsStrictlySortedBy
    ascending_ascends [] = tt
    ascending_ascends (x ∷ xs) = with_ascends x (ascending R xs) (ascending_ascends xs)
