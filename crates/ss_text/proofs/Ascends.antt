-- An element among ascending ones.
use Rattle.std.proofs.Common.{◌≡◌, ◌∷◌, ◌++◌, [], ℕ, zero, suc, Bool, true, false, List, Ok, Err, refl, sym, ap, ◌∙◌, subst, length, map, arith}
use Rattle.std.specs.Prelude.{◌||◌, insert}
use Rattle.std.specs.List.{AllByRecursion, list_any}
use Rattle.std.specs.List.Sorted.{IsStrictlySortedBy, IsSearchInRange, IsBinarySearchResult}
use Rattle.std.specs.Cmp.{IsTotalOrder}
use Rattle.std.specs.FinMap.{IsAntisymmetric}
use Rattle.std.specs.Ordering.{eq_by_cmp}
use Rattle.std.specs.declared.cmp.Ordering.{Ordering}
use Rattle.std.specs.declared.cmp.Ordering.TheVariants.{Less, Equal, Greater}
use Rattle.std.proofs.lemmas.Cmp.{tied_itself}
use Rattle.std.proofs.lemmas.List.{map-id}
use Rattle.std.proofs.lemmas.List.Folds.{list_any-append}
use Rattle.ss_text.specs.Ascending.{by_order, with_element, ascending}
use Rattle.ss_text.specs.Keys.{IsPlaceOf, IsPlaceFor}
use Rattle.ss_text.proofs.KeyLemmas.{IsKeyOrder, less_turned, at_tail, searched, placed_for, ascends_placed}
use Rattle.ss_text.proofs.SetLemmas.{ascending_of_same}

module _ {K : Type 0} (R : K → K → Ordering) where
  -- what ascends strictly is its elements once each, ascending
  less_first : (x : K) (xs : List K) → AllByRecursion (λ y. R x y ≡ Less) xs → with_element R x xs ≡ x ∷ xs
  less_first x [] h = refl
  less_first x (y ∷ ys) h = rw h.0 refl

  pub ascending_itself : (xs : List K) → IsStrictlySortedBy R xs → ascending R xs ≡ xs
  unfolding IsStrictlySortedBy
  ascending_itself [] s = refl
  ascending_itself (x ∷ xs) s = ap (with_element R x) (ascending_itself xs s.1) ∙ less_first x xs s.0

module _ {K : Type 0} (R : K → K → Ordering) (total : IsTotalOrder R) (same : IsAntisymmetric R) where
  order : IsKeyOrder R (eq_by_cmp R)
  order = record { total = total; same = same; ties = λ x y. refl }

  own : (ks : List K) → IsStrictlySortedBy R ks → IsStrictlySortedBy R (map (λ k. k) ks)
  own ks s = rw (map-id ks) s

  from_own : (ks : List K) → IsStrictlySortedBy R (map (λ k. k) ks) → IsStrictlySortedBy R ks
  from_own ks s = rw (map-id ks) at s

  -- an earlier element is less than a later one
  earlier_less : (k x : K) (xs : List K) (i : ℕ) → AllByRecursion (λ y. R x y ≡ Less) xs → IsPlaceOf (λ y. y) k xs i → R x k ≡ Less
  earlier_less k x [] i h at = absurd (omega (arith, at.within))
  earlier_less k x (y ∷ ys) zero h at = subst (λ (j : K). R x j ≡ Less) (at.has_key y) h.0
  earlier_less k x (y ∷ ys) (suc i) h at = earlier_less k x ys i h.1 (record { within = omega (arith, at.within); has_key = at.has_key })

  same_there : (k : K) (ks : List K) (i : ℕ) → IsStrictlySortedBy R ks → IsPlaceOf (λ y. y) k ks i → with_element R k ks ≡ ks
  unfolding IsStrictlySortedBy
  same_there k [] i s at = absurd (omega (arith, at.within))
  same_there k (x ∷ xs) zero s at =
      let e : R k x ≡ Equal = subst (λ (j : K). R j x ≡ Equal) (at.has_key x) (tied_itself total x) in
      rw e refl
  same_there k (x ∷ xs) (suc i) s at =
      let e : R k x ≡ Greater = less_turned order x k (earlier_less k x xs i s.0 (at_tail order (λ y. y) k x xs i at)) in
      rw (e, same_there k xs i s.1 (at_tail order (λ y. y) k x xs i at)) refl

  module _ (k : K) (ks : List K) (i : ℕ) (s : IsStrictlySortedBy R ks) where
    pub found_kept : IsSearchInRange (Ok i) (length ks) → IsBinarySearchResult (λ y. R y k) ks (Ok i) → ks ≡ with_element R k ks
    found_kept bound at = sym (same_there k ks i s (searched order (λ y. y) k ks (Ok i) (own ks s) bound at).found)

    missing : IsSearchInRange (Err i) (length ks) → IsBinarySearchResult (λ y. R y k) ks (Err i) → IsPlaceFor R (λ y. y) k ks i
    missing bound at = (searched order (λ y. y) k ks (Err i) (own ks s) bound at).absent

    pub missing_placed : IsSearchInRange (Err i) (length ks) → IsBinarySearchResult (λ y. R y k) ks (Err i) → insert ks i k ≡ with_element R k ks
    missing_placed bound at = sym (placed_for order (λ y. y) k ks i (missing bound at))

    pub missing_ascends : IsSearchInRange (Err i) (length ks) → IsBinarySearchResult (λ y. R y k) ks (Err i) → IsStrictlySortedBy R (insert ks i k)
    missing_ascends bound at = from_own (insert ks i k) (ascends_placed order (λ y. y) k ks i (own ks s) (missing bound at))

  moved : (a b c : Bool) → (a || (b || c)) ≡ (b || (a || c))
  moved true true c = refl
  moved true false c = refl
  moved false b c = refl

  or_once : (a b : Bool) → (a || b) ≡ (a || (a || b))
  or_once true b = refl
  or_once false b = refl

  -- the elements are the same as with the one in front
  with_any : (p : K → Bool) (x : K) (xs : List K) → list_any p (with_element R x xs) ≡ list_any p (x ∷ xs)
  with_any p x [] = refl
  with_any p x (y ∷ ys) =
      elim (R x y) as (λ r. R x y ≡ r → list_any p (by_order r (x ∷ y ∷ ys) (y ∷ ys) (y ∷ with_element R x ys)) ≡ (p x || (p y || list_any p ys))) [
        | Less ↦ λ e. refl
        | Equal ↦ λ e. or_once (p y) (list_any p ys) ∙ ap (λ (z : K). p z || (p y || list_any p ys)) (sym (same x y e))
        | Greater ↦ λ e. ap (λ (b : Bool). p y || b) (with_any p x ys) ∙ moved (p y) (p x) (list_any p ys)
      ] refl

  middle_any : (p : K → Bool) (xs : List K) (x : K) (ys : List K) → list_any p (with_element R x xs ++ ys) ≡ list_any p (xs ++ x ∷ ys)
  middle_any p xs x ys =
      list_any-append p (with_element R x xs) ys ∙ ap (λ (b : Bool). b || list_any p ys) (with_any p x xs) ∙ turned (p x) (list_any p xs) (list_any p ys) ∙ sym (list_any-append p xs (x ∷ ys))
    where
      turned : (a b c : Bool) → ((a || b) || c) ≡ (b || (a || c))
      turned true true c = refl
      turned true false c = refl
      turned false b c = refl

  -- an element that is put before others come
  pub put_first : (xs : List K) (x : K) (ys : List K) → ascending R (with_element R x xs ++ ys) ≡ ascending R (xs ++ x ∷ ys)
  put_first xs x ys = ascending_of_same total same (with_element R x xs ++ ys) (xs ++ x ∷ ys) (record { same = λ p. middle_any p xs x ys })
