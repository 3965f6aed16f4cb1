-- A column that is put among ascending ones.
use Rattle.std.proofs.Common.{arith, ◌≡◌, ◌∙◌, ℕ, zero, suc, Bool, true, false, List, [], ◌∷◌, ◌++◌, refl, subst}
use Rattle.std.specs.Prelude.{◌||◌}
use Rattle.std.specs.List.{AllByRecursion, list_any}
use Rattle.std.specs.declared.cmp.Ordering.TheVariants.{Less}
use Rattle.std.proofs.lemmas.Cmp.{tied_itself}
use Rattle.std.specs.List.Sorted.{IsStrictlySortedBy}
use Rattle.std.proofs.lemmas.List.Folds.{list_any-append}
use Rattle.ss_text.specs.Texts.{Text, text_cmp}
use Rattle.ss_text.specs.Ascending.{with_element, ascending}
use Rattle.ss_text.specs.Keys.{IsPlaceOf}
use Rattle.ss_text.proofs.KeyLemmas.{text_order, less_turned, at_tail}
use Rattle.ss_text.proofs.SetLemmas.{SameElements, ascending_of_same}

either_way : (a b : Bool) → a || (b || false) ≡ b || a
either_way true true = refl
either_way true false = refl
either_way false true = refl
either_way false false = refl

last_first : (xs : List Text) (x : Text) → SameElements (xs ++ x ∷ []) (x ∷ xs)
last_first xs x = record { same = λ p. list_any-append p xs (x ∷ []) ∙ either_way (list_any p xs) (p x) }

-- one more at the end is one more
pub one_more : (xs : List Text) (x : Text) → ascending text_cmp (xs ++ x ∷ []) ≡ with_element text_cmp x (ascending text_cmp xs)
one_more xs x = ascending_of_same text_order.total text_order.same (xs ++ x ∷ []) (x ∷ xs) (last_first xs x)

before : (x y : Text) (ys : List Text) (i : ℕ) → AllByRecursion (λ w. text_cmp y w ≡ Less) ys → IsPlaceOf (λ c. c) x ys i → text_cmp y x ≡ Less
before x y [] i h at = absurd (omega (arith, at.within))
before x y (w ∷ ws) zero h at = subst (λ v. text_cmp y v ≡ Less) (at.has_key w) h.0
before x y (w ∷ ws) (suc i) h at = before x y ws i h.1 (at_tail text_order (λ c. c) x w ws i at)

-- one that is there is no more
pub no_more : (x : Text) (xs : List Text) (i : ℕ) → IsStrictlySortedBy text_cmp xs → IsPlaceOf (λ c. c) x xs i → with_element text_cmp x xs ≡ xs
unfolding IsStrictlySortedBy
no_more x [] i s at = absurd (omega (arith, at.within))
no_more x (y ∷ ys) zero s at = rw (at.has_key y, tied_itself text_order.total x) refl
no_more x (y ∷ ys) (suc i) s at =
    let rest = at_tail text_order (λ c. c) x y ys i at in
    rw (less_turned text_order y x (before x y ys i s.0 rest), no_more x ys i s.1 rest) refl
