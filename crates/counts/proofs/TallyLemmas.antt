-- Tallies that ascend by their keys: what is found of a key, and what one more move comes to.
use Rattle.std.proofs.Common.{◌≡◌, ◌<◌, ◌≤◌, ◌+◌, ℕ, zero, suc, Bool, true, false, cond, List, [], ◌∷◌, Option, Some, None, Ok, Err, refl, sym, ◌∙◌, ap, subst, length, map, arith, slice_index_or, slice_set}
use Rattle.std.specs.Prelude.{◌&&◌, insert, if◌then◌else◌}
use Rattle.std.specs.List.{AllByRecursion, find}
use Rattle.std.specs.List.Sorted.{IsStrictlySortedBy, IsBinarySearchResult, IsPermutation}
use Rattle.std.specs.Option.{option_map_or}
use Rattle.std.specs.declared.cmp.Ordering.{Ordering}
use Rattle.std.specs.declared.cmp.Ordering.TheVariants.{Equal}
use Rattle.std.specs.Cmp.{IsTotalOrder}
use Rattle.std.specs.FinMap.{IsAntisymmetric}
use Rattle.std.proofs.lemmas.Cmp.{tied_itself}
use Rattle.std.proofs.lemmas.List.Sorted.{list_any-IsPermutation}
use Rattle.std.proofs.lemmas.List.{get_or_default}
use Rattle.ss_text.specs.Ascending.{with_element, ascending}
use Rattle.ss_text.specs.Keys.{IsPlaceOf, IsPlaceFor}
use Rattle.ss_text.proofs.Ascends.{found_kept}
use Rattle.ss_text.proofs.KeyLemmas.{IsKeyOrder, equal_is, earlier_differs, at_tail, searched, found_at, lacks_for, lacks_find, less_differs, placed_for, place_of_seen, place_for_seen}
use Rattle.ss_text.proofs.SetLemmas.{ascending_of_same, same_map}
use Rattle.counts.specs.declared.moves.Move.{Move}
use Rattle.counts.specs.declared.tally.Tally.{Tally}
use Rattle.counts.specs.Counted.{keys_of}

module _ {K : Type 0} {R : K → K → Ordering} {E : K → K → Bool} (o : IsKeyOrder R E) where
  -- the tally of a key
  abbrev pub tally_of : List (Tally K) → K → Option (Tally K)
  tally_of ts q = find (λ (t : Tally K). E q t.key) ts

  module _ (k : K) (ts : List (Tally K)) (i : ℕ) (s : IsStrictlySortedBy R (keys_of ts)) where
    -- what a search in these tallies says of its place
    pub place_of : (xs : List (Tally K)) → xs ≡ ts → i < length xs → IsBinarySearchResult (λ (t : Tally K). R t.key k) xs (Ok i) → IsPlaceOf (λ (t : Tally K). t.key) k ts i
    place_of xs is bound at = (searched o (λ (t : Tally K). t.key) k ts (Ok i) s (rw is at bound) (rw is at at)).found

    pub place_for : (xs : List (Tally K)) → xs ≡ ts → i ≤ length xs → IsBinarySearchResult (λ (t : Tally K). R t.key k) xs (Err i) → IsPlaceFor R (λ (t : Tally K). t.key) k ts i
    place_for xs is bound at = (searched o (λ (t : Tally K). t.key) k ts (Err i) s (rw is at bound) (rw is at at)).absent

    -- one that has a tally at this place
    module _ (at : IsPlaceOf (λ (t : Tally K). t.key) k ts i) where
      pub found : (d : Tally K) → tally_of ts k ≡ Some (slice_index_or ts i d)
      found d = found_at o (λ (t : Tally K). t.key) k ts i d s at

      pub with_there : keys_of ts ≡ with_element R k (keys_of ts)
      with_there =
          let there = place_of_seen o (λ (q : K). q) (λ (t : Tally K). t.key) k ts i at in
          found_kept R o.total o.same k (keys_of ts) i s there.within (λ d. subst (λ (j : K). R j k ≡ Equal) (sym (there.has_key d)) (tied_itself o.total k))

    -- and one that would stand there
    module _ (gap : IsPlaceFor R (λ (t : Tally K). t.key) k ts i) where
      pub missing : tally_of ts k ≡ None
      missing = lacks_find o (λ (t : Tally K). t.key) k ts (lacks_for o (λ (t : Tally K). t.key) k ts i gap)

  -- the tally that a search finds, and none where it does not
  module _ (k : K) (ts : List (Tally K)) (i : ℕ) (s : IsStrictlySortedBy R (keys_of ts)) (xs : List (Tally K)) (is : xs ≡ ts) where
    pub tally_there : i < length xs → IsBinarySearchResult (λ (t : Tally K). R t.key k) xs (Ok i) → (t : Tally K) → t ≡ slice_index_or ts i t → tally_of ts k ≡ Some t
    tally_there bound at t e = found k ts i s (place_of k ts i s xs is bound at) t ∙ ap Some (sym e)

    pub none_there : i ≤ length xs → IsBinarySearchResult (λ (t : Tally K). R t.key k) xs (Err i) → tally_of ts k ≡ None
    none_there bound at = missing k ts i s (place_for k ts i s xs is bound at)

  keys_inserted : (ts : List (Tally K)) (i : ℕ) (y : Tally K) → insert (keys_of ts) i y.key ≡ keys_of (insert ts i y)
  keys_inserted [] zero y = refl
  keys_inserted [] (suc i) y = refl
  keys_inserted (t ∷ ts) zero y = refl
  keys_inserted (t ∷ ts) (suc i) y = ap (λ ks. t.key ∷ ks) (keys_inserted ts i y)

  pub with_placed : (y : Tally K) (ts : List (Tally K)) (i : ℕ) → IsPlaceFor R (λ (t : Tally K). t.key) y.key ts i → keys_of (insert ts i y) ≡ with_element R y.key (keys_of ts)
  with_placed y ts i gap = sym (placed_for o (λ (q : K). q) y.key (keys_of ts) i (place_for_seen o (λ (q : K). q) (λ (t : Tally K). t.key) y.key ts i gap) ∙ keys_inserted ts i y)

  -- the keys stay where a tally is put for another of its key
  pub keys_set : (y : Tally K) (ts : List (Tally K)) (i : ℕ) → IsPlaceOf (λ (t : Tally K). t.key) y.key ts i → keys_of (slice_set ts i y) ≡ keys_of ts
  keys_set y [] i at = refl
  keys_set y (t ∷ ts) zero at = ap (λ q. q ∷ keys_of ts) (sym (at.has_key t))
  keys_set y (t ∷ ts) (suc i) at = ap (λ qs. t.key ∷ qs) (keys_set y ts i (record { within = omega (arith, at.within); has_key = at.has_key }))

  -- what is found after one is put there, or in between
  either : (b c : Bool) (x y : Tally K) (r : Option (Tally K)) → (b ≡ true → c ≡ true → Some x ≡ Some y) → cond b (Some x) (cond c (Some y) r) ≡ cond c (Some y) (cond b (Some x) r)
  either true true x y r h = h refl refl
  either true false x y r h = refl
  either false c x y r h = refl

  apart : {A : Type 0} (q j k : K) → E k j ≡ false → E q j ≡ true → E q k ≡ true → A
  apart q j k differs with_j with_k =
      let is : q ≡ k = equal_is o q k with_k in
      absurd (cc (sym (ap (λ p. E p j) is) ∙ with_j))

  pub find_set : (y : Tally K) (ts : List (Tally K)) (i : ℕ) → IsStrictlySortedBy R (keys_of ts) → IsPlaceOf (λ (t : Tally K). t.key) y.key ts i → (q : K)
      → tally_of (slice_set ts i y) q ≡ (if E q y.key then Some y else tally_of ts q)
  unfolding IsStrictlySortedBy
  find_set y [] i s at q = absurd (omega (arith, at.within))
  find_set y (t ∷ ts) zero s at q = kept (E q y.key) (E q t.key) (ap (E q) (at.has_key t))
    where
      kept : (b c : Bool) → c ≡ b → cond b (Some y) (tally_of ts q) ≡ cond b (Some y) (cond c (Some t) (tally_of ts q))
      kept true c e = refl
      kept false true e = absurd (cc)
      kept false false e = refl
  find_set y (t ∷ ts) (suc i) s at q =
      ap (cond (E q t.key) (Some t)) (find_set y ts i s.1 (at_tail o (λ (t : Tally K). t.key) y.key t ts i at) q)
      ∙ either (E q t.key) (E q y.key) t y (tally_of ts q) (λ a b. apart q t.key y.key (earlier_differs o (λ (t : Tally K). t.key) y.key t ts i s.0 (at_tail o (λ (t : Tally K). t.key) y.key t ts i at)) a b)

  pub find_inserted : (y : Tally K) (ts : List (Tally K)) (i : ℕ) → IsPlaceFor R (λ (t : Tally K). t.key) y.key ts i → (q : K)
      → tally_of (insert ts i y) q ≡ (if E q y.key then Some y else tally_of ts q)
  find_inserted y [] zero gap q = refl
  find_inserted y [] (suc i) gap q = refl
  find_inserted y (t ∷ ts) zero gap q = refl
  find_inserted y (t ∷ ts) (suc i) gap q =
      ap (cond (E q t.key) (Some t)) (find_inserted y ts i (record { within = omega (arith, gap.within); before = gap.before.1; after = gap.after }) q)
      ∙ either (E q t.key) (E q y.key) t y (tally_of ts q) (λ a b. apart q t.key y.key (less_differs o t.key y.key gap.before.0) a b)

  -- so one number of a tally grows
  pub grown : (f : Tally K → ℕ) (more : Bool) (y : Tally K) (old new : List (Tally K)) (k : K) → y.key ≡ k
      → ((q : K) → tally_of new q ≡ (if E q y.key then Some y else tally_of old q)) → f y ≡ option_map_or f (tally_of old k) 0 + (if more then 1 else 0) → (q : K)
      → option_map_or f (tally_of new q) 0 ≡ option_map_or f (tally_of old q) 0 + (if more && E q k then 1 else 0)
  grown f more y old new k is found counted q = ap (λ t. option_map_or f t 0) (found q) ∙ one (E q y.key) (E q k) more refl refl counted
    where
      one : (b c : Bool) (m : Bool) → E q y.key ≡ b → E q k ≡ c → f y ≡ option_map_or f (tally_of old k) 0 + (if m then 1 else 0)
          → option_map_or f (if b then Some y else tally_of old q) 0 ≡ option_map_or f (tally_of old q) 0 + (if m && c then 1 else 0)
      one true true true e d h = rw (equal_is o q k d) h
      one true true false e d h = rw (equal_is o q k d) h
      one true false m e d h = absurd (cc (sym e ∙ ap (E q) is ∙ d))
      one false true m e d h = absurd (cc (sym d ∙ ap (E q) (sym is) ∙ e))
      one false false true e d h = omega arith
      one false false false e d h = omega arith

  -- each tally is found under its key
  pub own_at : (ts : List (Tally K)) (i : ℕ) (t : Tally K) → IsStrictlySortedBy R (keys_of ts) → i < length ts → t ≡ slice_index_or ts i t → tally_of ts t.key ≡ Some t
  own_at ts i t s bound is =
      let at : IsPlaceOf (λ (t : Tally K). t.key) t.key ts i = record { within = bound; has_key = λ d. ap (λ (t : Tally K). t.key) (get_or_default ts i d t bound ∙ sym is) } in
      found t.key ts i s at t ∙ ap Some (sym is)

  from_places : (P : Tally K → Type 0) (ts : List (Tally K)) → ((i : ℕ) (t : Tally K) → i < length ts → t ≡ slice_index_or ts i t → P t) → AllByRecursion P ts
  from_places P [] h = tt
  from_places P (t ∷ ts) h = (h 0 t (omega arith) refl, from_places P ts (λ i u bound is. h (suc i) u (omega (arith, bound)) is))

  pub all_own : (ts : List (Tally K)) → IsStrictlySortedBy R (keys_of ts) → AllByRecursion (λ (t : Tally K). tally_of ts t.key ≡ Some t) ts
  all_own ts s = from_places (λ (t : Tally K). tally_of ts t.key ≡ Some t) ts (λ i t bound is. own_at ts i t s bound is)

-- the keys of moves in another order
pub keys_permuted : {K : Type 0} {R : K → K → Ordering} → IsTotalOrder R → IsAntisymmetric R → (ms ns : List (Move K)) → IsPermutation ms ns
    → ascending R (map (λ (m : Move K). m.key) ns) ≡ ascending R (map (λ (m : Move K). m.key) ms)
keys_permuted total same ms ns h =
    sym (ascending_of_same total same _ _ (same_map (λ (m : Move _). m.key) ms ns (record { same = λ p. list_any-IsPermutation p ms ns h })))
