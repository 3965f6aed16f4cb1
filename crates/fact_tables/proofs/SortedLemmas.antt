-- What a sorted list has once each, from its front on.
use Rattle.std.proofs.Common.{◌≡◌, suc, ◌+◌, Bool, true, false, cond, List, [], ◌∷◌, refl, sym, ◌∙◌, ap, arith, get_or}
use native.Mathlib.Numerals.{unary_clauses}
use Rattle.std.specs.declared.cmp.Ordering.{Ordering}
use Rattle.std.specs.declared.cmp.Ordering.TheVariants.{Less, Equal, Greater}
use Rattle.std.specs.FinMap.{IsAntisymmetric}
use Rattle.std.specs.List.Sorted.{IsSorted}
use Rattle.std.specs.Ordering.{eq_by_cmp, is_lt, is_eq, ordering_reverse}
use Rattle.std.specs.Cmp.{IsTotalOrder}
use Rattle.ss_text.specs.Ascending.{by_order, with_element, ascending}

module _ {A : Type 0} (R : A → A → Ordering) where
  pub tail_sorted : (x : A) (xs : List A) → IsSorted R (x ∷ xs) → IsSorted R xs
  tail_sorted x xs h = λ k d low high.
      let next : is_lt (R (get_or (x ∷ xs) (suc k + 1) d) (get_or (x ∷ xs) (suc k) d)) ≡ false = h (suc k) d (omega arith) (omega arith) in
      simp unary_clauses (simp unary_clauses at next)

  module _ (o : IsTotalOrder R) (same : IsAntisymmetric R) where
    pub equal_is : (x y : A) → eq_by_cmp R x y ≡ true → x ≡ y
    equal_is x y h = same x y (is_equal (R x y) h)
      where
        is_equal : (r : Ordering) → is_eq r ≡ true → r ≡ Equal
        is_equal Less h = absurd (cc)
        is_equal Equal h = refl
        is_equal Greater h = absurd (cc)

    module _ (x y : A) (ys : List A) (up : is_lt (R y x) ≡ false) where
      before : (rest : List A) → ascending R (y ∷ ys) ≡ y ∷ rest → ascending R (x ∷ y ∷ ys) ≡ cond (eq_by_cmp R x y) (ascending R (y ∷ ys)) (x ∷ ascending R (y ∷ ys))
      before rest e = ap (with_element R x) e ∙ by_case (R x y) refl
        where
          by_case : (r : Ordering) → R x y ≡ r → by_order r (x ∷ y ∷ rest) (y ∷ rest) (y ∷ with_element R x rest) ≡ cond (is_eq r) (ascending R (y ∷ ys)) (x ∷ ascending R (y ∷ ys))
          by_case Less h = ap (λ (zs : List A). x ∷ zs) (sym e)
          by_case Equal h = sym e
          by_case Greater h = absurd (cc (ap is_lt (o.antisymm y x ∙ ap ordering_reverse h), up))

      still_first : (rest : List A) → ascending R (y ∷ ys) ≡ y ∷ rest → (more : List A) × (ascending R (x ∷ y ∷ ys) ≡ x ∷ more)
      still_first rest e = by_case (eq_by_cmp R x y) refl
        where
          by_case : (b : Bool) → eq_by_cmp R x y ≡ b → (more : List A) × (ascending R (x ∷ y ∷ ys) ≡ x ∷ more)
          by_case true h = (rest, before rest e ∙ rw h (e ∙ ap (λ (z : A). z ∷ rest) (sym (equal_is x y h))))
          by_case false h = (ascending R (y ∷ ys), before rest e ∙ rw h refl)

    -- the first stays first
    first_stays : (x : A) (xs : List A) → IsSorted R (x ∷ xs) → (rest : List A) × (ascending R (x ∷ xs) ≡ x ∷ rest)
    first_stays x [] s = ([], refl)
    first_stays x (y ∷ ys) s =
        let after = first_stays y ys (tail_sorted x (y ∷ ys) s) in
        still_first x y ys (s 0 x (omega arith) (omega arith)) after.0 after.1

    -- an element that equals the next is not there twice
    pub one_more : (x y : A) (ys : List A) → IsSorted R (x ∷ y ∷ ys) → ascending R (x ∷ y ∷ ys) ≡ cond (eq_by_cmp R x y) (ascending R (y ∷ ys)) (x ∷ ascending R (y ∷ ys))
    one_more x y ys s =
        let after = first_stays y ys (tail_sorted x (y ∷ ys) s) in
        before x y ys (s 0 x (omega arith) (omega arith)) after.0 after.1
