-- The first element that passes a test, in a list with one more element at its end.
use Rattle.std.proofs.Common.{◌≡◌, ◌+◌, ◌∷◌, ◌++◌, [], ℕ, Bool, true, false, List, Some, None, refl, sym, ap, ◌∙◌, arith, cond, length, is_some, add-zero, suc}
use Rattle.std.specs.Prelude.{position, ◌||◌}
use Rattle.std.specs.List.{list_any, find, position_from}
use Rattle.std.proofs.lemmas.Iterator.Adapters.{position_from-zero}

module _ {A : Type 0} (p : A → Bool) where
  is_some_from : (i : ℕ) (xs : List A) → is_some (position_from p i xs) ≡ list_any p xs
  is_some_from i [] = refl
  is_some_from i (x ∷ xs) = by_first (p x) (is_some_from (i + 1) xs)
    where
      by_first : (b : Bool) → is_some (position_from p (i + 1) xs) ≡ list_any p xs → is_some (cond b (Some i) (position_from p (i + 1) xs)) ≡ (b || list_any p xs)
      by_first true h = refl
      by_first false h = h

  pub is_some-position : (xs : List A) → is_some (position p xs) ≡ list_any p xs
  is_some-position xs = ap is_some (position_from-zero p xs) ∙ is_some_from 0 xs

  pub is_some-find : (xs : List A) → is_some (find p xs) ≡ list_any p xs
  is_some-find [] = refl
  is_some-find (x ∷ xs) = by_first (p x) (is_some-find xs)
    where
      by_first : (b : Bool) → is_some (find p xs) ≡ list_any p xs → is_some (cond b (Some x) (find p xs)) ≡ (b || list_any p xs)
      by_first true h = refl
      by_first false h = h

  module _ (y : A) (fails : p y ≡ false) where
    from_failing : (i : ℕ) (xs : List A) → position_from p i (xs ++ y ∷ []) ≡ position_from p i xs
    from_failing i [] = ap (λ b. cond b (Some i) None) fails
    from_failing i (x ∷ xs) = ap (cond (p x) (Some i)) (from_failing (i + 1) xs)

    -- one more that fails
    pub position_failing : (xs : List A) → position p (xs ++ y ∷ []) ≡ position p xs
    position_failing xs = position_from-zero p (xs ++ y ∷ []) ∙ from_failing 0 xs ∙ sym (position_from-zero p xs)

    pub find_failing : (xs : List A) → find p (xs ++ y ∷ []) ≡ find p xs
    find_failing [] = ap (λ b. cond b (Some y) None) fails
    find_failing (x ∷ xs) = ap (cond (p x) (Some x)) (find_failing xs)

  module _ (y : A) (passes : p y ≡ true) where
    from_first : (i : ℕ) (xs : List A) → list_any p xs ≡ false → position_from p i (xs ++ y ∷ []) ≡ Some (i + length xs)
    from_first i [] h = ap (λ b. cond b (Some i) None) passes ∙ ap Some (sym (add-zero i))
    from_first i (x ∷ xs) h = by_first (p x) h (λ r. from_first (i + 1) xs r)
      where
        moved : (i + 1) + length xs ≡ i + suc (length xs)
        moved = omega arith

        by_first : (b : Bool) → (b || list_any p xs) ≡ false → (list_any p xs ≡ false → position_from p (i + 1) (xs ++ y ∷ []) ≡ Some ((i + 1) + length xs))
            → cond b (Some i) (position_from p (i + 1) (xs ++ y ∷ [])) ≡ Some (i + suc (length xs))
        by_first true r later = absurd (cc)
        by_first false r later = later r ∙ ap Some moved

    -- the first that passes
    pub position_first : (xs : List A) → list_any p xs ≡ false → position p (xs ++ y ∷ []) ≡ Some (length xs)
    position_first xs h = let e : 0 + length xs ≡ length xs = omega arith in position_from-zero p (xs ++ y ∷ []) ∙ from_first 0 xs h ∙ ap Some e

    pub find_first : (xs : List A) → list_any p xs ≡ false → find p (xs ++ y ∷ []) ≡ Some y
    find_first [] h = ap (λ b. cond b (Some y) None) passes
    find_first (x ∷ xs) h = by_first (p x) h (λ r. find_first xs r)
      where
        by_first : (b : Bool) → (b || list_any p xs) ≡ false → (list_any p xs ≡ false → find p (xs ++ y ∷ []) ≡ Some y) → cond b (Some x) (find p (xs ++ y ∷ [])) ≡ Some y
        by_first true r later = absurd (cc)
        by_first false r later = later r
