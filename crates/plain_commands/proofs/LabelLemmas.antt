-- A label among ascending ones.
use Rattle.std.proofs.Common.{◌≡◌, ◌∷◌, [], ℕ, zero, suc, List, Ok, Err, refl, sym, subst, length, map, arith}
use Rattle.std.specs.Prelude.{insert}
use Rattle.std.specs.List.{AllByRecursion}
use Rattle.std.specs.List.Sorted.{IsStrictlySortedBy, IsSearchInRange, IsBinarySearchResult}
use Rattle.std.specs.declared.cmp.Ordering.TheVariants.{Less, Equal, Greater}
use Rattle.std.proofs.lemmas.Cmp.{tied_itself}
use Rattle.std.proofs.lemmas.List.{map-id}
use Rattle.ss_text.specs.Texts.{Text, text_cmp}
use Rattle.ss_text.specs.Ascending.{with_element}
use Rattle.ss_text.specs.Keys.{IsPlaceOf, IsPlaceFor}
use Rattle.ss_text.proofs.KeyLemmas.{text_order, less_turned, at_tail, searched, placed_for, ascends_placed}

own : (ks : List Text) → IsStrictlySortedBy text_cmp ks → IsStrictlySortedBy text_cmp (map (λ k. k) ks)
own ks s = rw (map-id ks) s

from_own : (ks : List Text) → IsStrictlySortedBy text_cmp (map (λ k. k) ks) → IsStrictlySortedBy text_cmp ks
from_own ks s = rw (map-id ks) at s

-- an earlier label is less than a later one
earlier_less : (k x : Text) (xs : List Text) (i : ℕ) → AllByRecursion (λ y. text_cmp x y ≡ Less) xs → IsPlaceOf (λ y. y) k xs i → text_cmp x k ≡ Less
earlier_less k x [] i h at = absurd (omega (arith, at.within))
earlier_less k x (y ∷ ys) zero h at = subst (λ (j : Text). text_cmp x j ≡ Less) (at.has_key y) h.0
earlier_less k x (y ∷ ys) (suc i) h at = earlier_less k x ys i h.1 (record { within = omega (arith, at.within); has_key = at.has_key })

same_there : (k : Text) (ks : List Text) (i : ℕ) → IsStrictlySortedBy text_cmp ks → IsPlaceOf (λ y. y) k ks i → with_element text_cmp k ks ≡ ks
unfolding IsStrictlySortedBy
same_there k [] i s at = absurd (omega (arith, at.within))
same_there k (x ∷ xs) zero s at =
    let e : text_cmp k x ≡ Equal = subst (λ (j : Text). text_cmp j x ≡ Equal) (at.has_key x) (tied_itself text_order.total x) in
    rw e refl
same_there k (x ∷ xs) (suc i) s at =
    let e : text_cmp k x ≡ Greater = less_turned text_order x k (earlier_less k x xs i s.0 (at_tail text_order (λ y. y) k x xs i at)) in
    rw (e, same_there k xs i s.1 (at_tail text_order (λ y. y) k x xs i at)) refl

pub none_ascend : IsStrictlySortedBy text_cmp []
unfolding IsStrictlySortedBy
none_ascend = tt

module _ (k : Text) (ks : List Text) (i : ℕ) (s : IsStrictlySortedBy text_cmp ks) where
  pub found_kept : IsSearchInRange (Ok i) (length ks) → IsBinarySearchResult (λ y. text_cmp y k) ks (Ok i) → ks ≡ with_element text_cmp k ks
  found_kept bound at = sym (same_there k ks i s (searched text_order (λ y. y) k ks (Ok i) (own ks s) bound at).found)

  missing : IsSearchInRange (Err i) (length ks) → IsBinarySearchResult (λ y. text_cmp y k) ks (Err i) → IsPlaceFor text_cmp (λ y. y) k ks i
  missing bound at = (searched text_order (λ y. y) k ks (Err i) (own ks s) bound at).absent

  pub missing_placed : IsSearchInRange (Err i) (length ks) → IsBinarySearchResult (λ y. text_cmp y k) ks (Err i) → insert ks i k ≡ with_element text_cmp k ks
  missing_placed bound at = sym (placed_for text_order (λ y. y) k ks i (missing bound at))

  pub missing_ascends : IsSearchInRange (Err i) (length ks) → IsBinarySearchResult (λ y. text_cmp y k) ks (Err i) → IsStrictlySortedBy text_cmp (insert ks i k)
  missing_ascends bound at = from_own (insert ks i k) (ascends_placed text_order (λ y. y) k ks i (own ks s) (missing bound at))
