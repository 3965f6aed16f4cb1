-- A walk over a list that rises by a key, group by group.
use Rattle.std.proofs.Common.{◌≡◌, ◌<◌, ◌+◌, ℕ, zero, suc, List, [], ◌∷◌, ◌++◌, Some, None, map, take, drop, refl, sym, ap, subst, ◌∙◌, append_assoc, append-nil, arith}
use native.Mathlib.Numerals.{unary_clauses}
use Rattle.std.specs.Prelude.{Bool, filter, slice_get}
use Rattle.std.specs.declared.cmp.Ordering.{Ordering}
use Rattle.std.specs.List.{prefix_len}
use Rattle.std.specs.List.Sorted.{IsStrictlySortedBy}
use Rattle.std.specs.Map.{keys_of}
use Rattle.std.specs.Ordering.{on, then_cmp}
use Rattle.std.proofs.lemmas.List.{map-append, drop-drop}
use Rattle.ss_text.specs.Ascending.{ascending}
use Rattle.ss_text.proofs.KeyLemmas.{IsKeyOrder, equal_itself}
use Rattle.ss_text.proofs.GroupLemmas.{grouped, Rises, rises, inner, next_taken, next_group, strict_front, strict_drop, strict_ascending}

-- what is left of a list from a place on
module _ {A : Type 0} where
  pub none_left : (xs : List A) (n : ℕ) → None ≡ slice_get xs n → drop n xs ≡ []
  none_left [] zero e = refl
  none_left [] (suc n) e = refl
  none_left (x ∷ xs) zero e = absurd (cc)
  none_left (x ∷ xs) (suc n) e = none_left xs n e

  pub one_left : (xs : List A) (n : ℕ) (x : A) → Some x ≡ slice_get xs n → drop n xs ≡ x ∷ drop (n + 1) xs
  one_left [] n y e = absurd (cc)
  one_left (x ∷ xs) zero y e = cc
  one_left (x ∷ xs) (suc n) y e = simp unary_clauses (simp unary_clauses at (one_left xs n y e))

  pub first_left : (xs : List A) (n : ℕ) (x : A) → Some x ≡ slice_get xs n → Some x ≡ slice_get (drop n xs) 0
  first_left xs zero x e = e
  first_left [] (suc n) x e = e
  first_left (x ∷ xs) (suc n) y e = first_left xs n y e

-- a list in order by a key and then by another order, and what is made of each group
module _ {A K B : Type 0} {R : K → K → Ordering} {E : K → K → Bool} (o : IsKeyOrder R E) (key : A → K) (S : A → A → Ordering) (body : List A → B) where
  -- each key with what is made of its elements
  abbrev pub entries_of : List A → List (K × B)
  entries_of xs = grouped o key (λ (k : K) (own : List A). (k, body own)) xs

  keys_are : (own : K → List A) (keys : List K) → keys_of (map (λ (k : K). let entry : K × B = (k, body (own k)) in entry) keys) ≡ keys
  keys_are own [] = refl
  keys_are own (k ∷ ks) = ap (λ (rest : List K). k ∷ rest) (keys_are own ks)

  pub keys_ascend : (xs : List A) → IsStrictlySortedBy R (keys_of (entries_of xs))
  keys_ascend xs = rw (keys_are (λ (k : K). filter (λ (x : A). E k (key x)) xs) (ascending R (map key xs))) (strict_ascending o.total (map key xs))

  -- the elements from a place on, the first of them, and how many have its key
  module _ (xs : List A) (sorted : IsStrictlySortedBy (then_cmp (on key R) S) xs) (from : ℕ) (first : A) (is : Some first ≡ slice_get xs from)
      (count : ℕ) (counts : count ≡ prefix_len (λ (x : A). E (key first) (key x)) (drop from xs)) where
    left_sorted : IsStrictlySortedBy (then_cmp (on key R) S) (drop from xs)
    left_sorted = strict_drop (then_cmp (on key R) S) from xs sorted

    left_rises : Rises o key (drop from xs)
    left_rises = rises o key S (drop from xs) left_sorted

    pub own_sorted : IsStrictlySortedBy S (take count (drop from xs))
    own_sorted =
        subst (IsStrictlySortedBy S) (next_taken o key (drop from xs) first count left_rises (first_left xs from first is) counts) (inner o key S (key first) (drop from xs) left_sorted)

    own_entry : K × B
    own_entry = (key first, body (take count (drop from xs)))

    next : entries_of (drop from xs) ≡ own_entry ∷ entries_of (drop (from + count) xs)
    unfolding own_entry
    next =
        next_group o key (drop from xs) first count left_rises (first_left xs from first is) counts (λ (k : K) (own : List A). (k, body own))
        ∙ ap (λ (rest : List A). own_entry ∷ entries_of rest) (drop-drop count from xs)

    -- one entry more
    pub one_more_entry : (done : List (K × B)) → done ++ entries_of (drop from xs) ≡ entries_of xs
        → (done ++ (key first, body (take count (drop from xs))) ∷ []) ++ entries_of (drop (from + count) xs) ≡ entries_of xs
    unfolding own_entry
    one_more_entry done h = append_assoc done (own_entry ∷ []) (entries_of (drop (from + count) xs)) ∙ ap (λ (rest : List (K × B)). done ++ rest) (sym next) ∙ h

    pub key_fits : (done : List (K × B)) → done ++ entries_of (drop from xs) ≡ entries_of xs → IsStrictlySortedBy R (keys_of done ++ key first ∷ [])
    unfolding own_entry
    key_fits done h =
        let rest = entries_of (drop (from + count) xs) in
        let all : keys_of (entries_of xs) ≡ (keys_of done ++ key first ∷ []) ++ keys_of rest =
        ap keys_of (sym (one_more_entry done h)) ∙ map-append (λ (e : K × B). e.0) (done ++ own_entry ∷ []) rest
        ∙ ap (λ (ks : List K). ks ++ keys_of rest) (map-append (λ (e : K × B). e.0) done (own_entry ∷ [])) in
        strict_front R (keys_of done ++ key first ∷ []) (keys_of rest) (subst (IsStrictlySortedBy R) all (keys_ascend xs))

    pub some_count : 0 < count
    some_count = rw counts (from_first (drop from xs) (first_left xs from first is))
      where
        from_first : (ys : List A) → Some first ≡ slice_get ys 0 → 0 < prefix_len (λ (x : A). E (key first) (key x)) ys
        from_first [] e = absurd (cc)
        from_first (y ∷ ys) e =
            let same : first ≡ y = cc in
            rw (← same, equal_itself o (key first)) (omega arith)

  -- no element is left
  pub all_entries : (xs : List A) (from : ℕ) (done : List (K × B)) → None ≡ slice_get xs from → done ++ entries_of (drop from xs) ≡ entries_of xs → done ≡ entries_of xs
  all_entries xs from done none h = sym (append-nil done) ∙ rw (none_left xs from none) at h
