-- What is among the elements of a list, by recursion on the list.
use Rattle.std.proofs.Common.{◌≡◌, ◌<◌, ◌∷◌, ◌++◌, [], ◌⊎◌, inl, inr, ℕ, zero, suc, Bool, true, false, List, Option, Some, None, refl, sym, ap, ◌∙◌, subst, arith, length, map, take, drop}
use Rattle.std.specs.Prelude.{Contains, option_and_then, option_to_list, slice_get, slice_index_or, remove, flat_map, ◌&&◌, ◌||◌}
use Rattle.std.specs.List.{list_all, list_any}
use Rattle.var_typing.specs.Typed.{without}

module _ {A : Type 0} where
  abbrev pub Among : A → List A → Type 0
  Among x [] = ⊥
  Among x (y ∷ ys) = (x ≡ y) ⊎ Among x ys

  pub among_left : (x : A) (xs ys : List A) → Among x xs → Among x (xs ++ ys)
  among_left x [] ys h = absurd h
  among_left x (y ∷ xs) ys (inl e) = inl e
  among_left x (y ∷ xs) ys (inr h) = inr (among_left x xs ys h)

  pub among_right : (x : A) (xs ys : List A) → Among x ys → Among x (xs ++ ys)
  among_right x [] ys h = h
  among_right x (y ∷ xs) ys h = inr (among_right x xs ys h)

  pub among_append : (x : A) (xs ys : List A) → Among x (xs ++ ys) → Among x xs ⊎ Among x ys
  among_append x [] ys h = inr h
  among_append x (y ∷ xs) ys (inl e) = inl (inl e)
  among_append x (y ∷ xs) ys (inr h) = further (among_append x xs ys h)
    where
      further : Among x xs ⊎ Among x ys → Among x (y ∷ xs) ⊎ Among x ys
      further (inl i) = inl (inr i)
      further (inr j) = inr j

  among_take : (x : A) (k : ℕ) (xs : List A) → Among x (take k xs) → Among x xs
  among_take x zero xs h = absurd h
  among_take x (suc k) [] h = absurd h
  among_take x (suc k) (y ∷ xs) (inl e) = inl e
  among_take x (suc k) (y ∷ xs) (inr h) = inr (among_take x k xs h)

  among_drop : (x : A) (k : ℕ) (xs : List A) → Among x (drop k xs) → Among x xs
  among_drop x zero xs h = h
  among_drop x (suc k) [] h = absurd h
  among_drop x (suc k) (y ∷ xs) h = inr (among_drop x k xs h)

  among_get : (x : A) (k : ℕ) (xs : List A) → Among x (option_to_list (slice_get xs k)) → Among x xs
  among_get x k [] h = absurd h
  among_get x zero (y ∷ xs) (inl e) = inl e
  among_get x zero (y ∷ xs) (inr h) = absurd h
  among_get x (suc k) (y ∷ xs) h = inr (among_get x k xs h)

  -- a list without one of its elements, and that one
  pub among_split : (x : A) (spot : Option ℕ) (xs : List A) → Among x (without spot xs ++ option_to_list (option_and_then (slice_get xs) spot)) → Among x xs
  among_split x None xs h = from (among_append x xs [] h)
    where
      from : Among x xs ⊎ Among x [] → Among x xs
      from (inl i) = i
      from (inr j) = absurd j
  among_split x (Some k) xs h = from (among_append x (remove xs k) (option_to_list (slice_get xs k)) h)
    where
      parts : Among x (take k xs) ⊎ Among x (drop (suc k) xs) → Among x xs
      parts (inl i) = among_take x k xs i
      parts (inr j) = among_drop x (suc k) xs j

      from : Among x (remove xs k) ⊎ Among x (option_to_list (slice_get xs k)) → Among x xs
      from (inl i) = parts (among_append x (take k xs) (drop (suc k) xs) i)
      from (inr j) = among_get x k xs j

  among_place : (x : A) (xs : List A) (k : ℕ) → k < length xs → slice_index_or xs k x ≡ x → Among x xs
  among_place x [] k lt e = absurd (omega arith)
  among_place x (y ∷ xs) zero lt e = inl (sym e)
  among_place x (y ∷ xs) (suc k) lt e = inr (among_place x xs k (omega arith) e)

  pub among_contains : (x : A) (xs : List A) → Contains xs x → Among x xs
  among_contains x xs h = among_place x xs h.0 h.1 h.2

  pub all_among : (p : A → Bool) (x : A) (xs : List A) → list_all p xs ≡ true → Among x xs → p x ≡ true
  all_among p x [] all h = absurd h
  all_among p x (y ∷ xs) all h = by_head (p y) refl all h (λ a i. all_among p x xs a i)
    where
      by_head : (b : Bool) → p y ≡ b → (b && list_all p xs) ≡ true → Among x (y ∷ xs) → (list_all p xs ≡ true → Among x xs → p x ≡ true) → p x ≡ true
      by_head true e a (inl i) later = ap p i ∙ e
      by_head true e a (inr j) later = later a j
      by_head false e a i later = absurd (cc)

  pub none_among : (p : A → Bool) (x : A) (xs : List A) → list_any p xs ≡ false → Among x xs → p x ≡ false
  none_among p x [] none h = absurd h
  none_among p x (y ∷ xs) none h = by_head (p y) refl none h (λ a i. none_among p x xs a i)
    where
      by_head : (b : Bool) → p y ≡ b → (b || list_any p xs) ≡ false → Among x (y ∷ xs) → (list_any p xs ≡ false → Among x xs → p x ≡ false) → p x ≡ false
      by_head true e a i later = absurd (cc)
      by_head false e a (inl i) later = ap p i ∙ e
      by_head false e a (inr j) later = later a j

  pub among_all : (p : A → Bool) (xs : List A) → ((x : A) → Among x xs → p x ≡ true) → list_all p xs ≡ true
  among_all p [] h = refl
  among_all p (y ∷ xs) h = ap (λ b. b && list_all p xs) (h y (inl refl)) ∙ among_all p xs (λ x i. h x (inr i))

module _ {A B : Type 0} where
  pub among_map : (f : A → B) (y : B) (xs : List A) → Among y (map f xs) → (x : A) × Among x xs × (y ≡ f x)
  among_map f y [] h = absurd h
  among_map f y (x ∷ xs) (inl e) = (x, inl refl, e)
  among_map f y (x ∷ xs) (inr h) = let (z, i, e) = among_map f y xs h in (z, inr i, e)

  pub among_flat_map : (f : A → List B) (y : B) (xs : List A) → Among y (flat_map f xs) → (x : A) × Among x xs × Among y (f x)
  among_flat_map f y [] h = absurd h
  among_flat_map f y (x ∷ xs) h = from (among_append y (f x) (flat_map f xs) h) (λ j. among_flat_map f y xs j)
    where
      from : Among y (f x) ⊎ Among y (flat_map f xs) → (Among y (flat_map f xs) → (z : A) × Among z xs × Among y (f z)) → (z : A) × Among z (x ∷ xs) × Among y (f z)
      from (inl i) later = (x, inl refl, i)
      from (inr j) later = let (z, i, k) = later j in (z, inr i, k)

  pub among_flat_map_back : (f : A → List B) (y : B) (x : A) (xs : List A) → Among x xs → Among y (f x) → Among y (flat_map f xs)
  among_flat_map_back f y x [] h k = absurd h
  among_flat_map_back f y x (z ∷ xs) (inl e) k = among_left y (f z) (flat_map f xs) (subst (λ (w : A). Among y (f w)) e k)
  among_flat_map_back f y x (z ∷ xs) (inr h) k = among_right y (f z) (flat_map f xs) (among_flat_map_back f y x xs h k)
