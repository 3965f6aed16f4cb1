-- Lists that ascend strictly by a key: what is found at a place, and what changes there come to.
use Rattle.std.proofs.Common.{◌≡◌, ◌<◌, ◌≤◌, ◌∷◌, [], ℕ, Bool, true, false, List, Some, None, Result, Ok, Err, IfOk, IfErr, is_ok, refl, sym, ◌∙◌, ap, subst, zero, suc, length, map, take, drop, get_or, arith, slice_index_or}
use Rattle.std.specs.Prelude.{not, ◌||◌, count_by, insert, remove, filter}
use Rattle.std.specs.List.{AllByRecursion, AllWithin, find, list_any}
use Rattle.std.specs.List.Sorted.{IsStrictlySortedBy, IsSearchInRange, IsBinarySearchResult, IsNonDecreasingBy}
use Rattle.std.specs.Map.{lookup}
use Rattle.std.specs.Option.{IfSome, IfNone}
use Rattle.std.specs.Result.{result_ok}
use Rattle.std.specs.declared.cmp.Ordering.{Ordering}
use Rattle.std.specs.declared.cmp.Ordering.TheVariants.{Less, Equal, Greater}
use Rattle.std.specs.Ordering.{nat_cmp, eq_by_cmp, is_lt, is_eq, ordering_reverse, ordering_index}
use Rattle.std.specs.Cmp.{IsTotalOrder}
use Rattle.std.specs.Cmp.Lexicographic.{nat_list_cmp_total, lists_total, texts_ties, lists_ties, slice_cmp}
use Rattle.std.specs.FinMap.{IsAntisymmetric, nat_cmp-IsAntisymmetric, slice_cmp-IsAntisymmetric}
use Rattle.std.proofs.lemmas.Cmp.{tied_itself}
use Rattle.std.proofs.lemmas.Bool.{false≢true}
use Rattle.std.proofs.lemmas.List.{length-map, take-map, drop-map}
use Rattle.std.proofs.lemmas.List.Sums.{sum_by-cons}
use Rattle.ss_text.specs.Texts.{text_cmp, row_cmp, text_eq, row_eq}
use Rattle.ss_text.specs.Ascending.{with_element}
use Rattle.ss_text.specs.Places.{at_place, changed_where}
use Rattle.ss_text.specs.Keys.{IsPlaceOf, IsPlaceFor}

-- an order of keys, and a test that tells when two are the same
pub record IsKeyOrder {K : Type 0} (R : K → K → Ordering) (E : K → K → Bool) : Type 0 where
  pub total : IsTotalOrder R
  pub same : IsAntisymmetric R
  pub ties : (x y : K) → E x y ≡ eq_by_cmp R x y

pub text_order : IsKeyOrder text_cmp text_eq
text_order = record { total = nat_list_cmp_total; same = slice_cmp-IsAntisymmetric nat_cmp-IsAntisymmetric; ties = texts_ties }

pub row_order : IsKeyOrder row_cmp row_eq
row_order = record { total = lists_total nat_list_cmp_total; same = slice_cmp-IsAntisymmetric (slice_cmp-IsAntisymmetric nat_cmp-IsAntisymmetric); ties = lists_ties (slice_cmp nat_cmp) texts_ties }

module _ {K : Type 0} {R : K → K → Ordering} {E : K → K → Bool} (o : IsKeyOrder R E) where
  pub equal_itself : (k : K) → E k k ≡ true
  equal_itself k = o.ties k k ∙ ap is_eq (tied_itself o.total k)

  pub equal_is : (j k : K) → E j k ≡ true → j ≡ k
  equal_is j k h = o.same j k (is_equal (R j k) (sym (o.ties j k) ∙ h))
    where
      is_equal : (r : Ordering) → is_eq r ≡ true → r ≡ Equal
      is_equal Less h = absurd (cc)
      is_equal Equal h = refl
      is_equal Greater h = absurd (cc)

  -- a key that is less, or greater, is another
  pub less_differs : (j k : K) → R j k ≡ Less → E k j ≡ false
  less_differs j k h = o.ties k j ∙ ap is_eq (o.total.antisymm k j ∙ ap ordering_reverse h)

  pub greater_differs : (j k : K) → R j k ≡ Greater → E k j ≡ false
  greater_differs j k h = o.ties k j ∙ ap is_eq (o.total.antisymm k j ∙ ap ordering_reverse h)

  pub greater_turned : (j k : K) → R j k ≡ Greater → R k j ≡ Less
  greater_turned j k h = o.total.antisymm k j ∙ ap ordering_reverse h

  pub less_turned : (j k : K) → R j k ≡ Less → R k j ≡ Greater
  less_turned j k h = o.total.antisymm k j ∙ ap ordering_reverse h

  module _ {A : Type 0} (key : A → K) where
    abbrev pub Ascends : List A → Type 0
    Ascends xs = IsStrictlySortedBy R (map key xs)

    -- no element has the key
    abbrev pub Lacks : K → List A → Type 0
    Lacks k xs = AllByRecursion (λ x. E k (key x) ≡ false) xs

    -- after an element that has it, no other does
    pub lacks_after : (k : K) (x : A) (xs : List A) → key x ≡ k → AllByRecursion (λ y. R (key x) y ≡ Less) (map key xs) → Lacks k xs
    lacks_after k x [] e h = tt
    lacks_after k x (y ∷ ys) e h = (subst (λ (j : K). E j (key y) ≡ false) e (o.ties (key x) (key y) ∙ ap is_eq h.0), lacks_after k x ys e h.1)

    pub lacks_changed : (k : K) (f : A → A) (xs : List A) → Lacks k xs → changed_where (λ x. E k (key x)) f xs ≡ xs
    lacks_changed k f [] h = refl
    lacks_changed k f (x ∷ xs) h = rw (h.0, lacks_changed k f xs h.1) refl

    pub lacks_kept : (k : K) (xs : List A) → Lacks k xs → filter (λ x. not (E k (key x))) xs ≡ xs
    lacks_kept k [] h = refl
    lacks_kept k (x ∷ xs) h = rw (h.0, lacks_kept k xs h.1) refl

    pub lacks_find : (k : K) (xs : List A) → Lacks k xs → find (λ x. E k (key x)) xs ≡ None
    lacks_find k [] h = refl
    lacks_find k (x ∷ xs) h = rw h.0 (lacks_find k xs h.1)

    -- an earlier element has another key than a later one
    pub earlier_differs : (k : K) (x : A) (xs : List A) (i : ℕ) → AllByRecursion (λ y. R (key x) y ≡ Less) (map key xs) → IsPlaceOf key k xs i → E k (key x) ≡ false
    earlier_differs k x [] i h at = absurd (omega (arith, at.within))
    earlier_differs k x (y ∷ ys) zero h at = less_differs (key x) k (subst (λ (j : K). R (key x) j ≡ Less) (at.has_key y) h.0)
    earlier_differs k x (y ∷ ys) (suc i) h at = earlier_differs k x ys i h.1 (record { within = omega (arith, at.within); has_key = at.has_key })

    pub at_tail : (k : K) (x : A) (xs : List A) (i : ℕ) → IsPlaceOf key k (x ∷ xs) (suc i) → IsPlaceOf key k xs i
    at_tail k x xs i at = record { within = omega (arith, at.within); has_key = at.has_key }

    -- the one element that has the key, changed
    pub changed_at : (k : K) (f : A → A) (xs : List A) (i : ℕ) → Ascends xs → IsPlaceOf key k xs i → changed_where (λ x. E k (key x)) f xs ≡ at_place i f xs
    unfolding IsStrictlySortedBy
    changed_at k f [] i s at = refl
    changed_at k f (x ∷ xs) zero s at =
        let e : key x ≡ k = at.has_key x in
        rw (lacks_changed k f xs (lacks_after k x xs e s.0), e, equal_itself k) refl
    changed_at k f (x ∷ xs) (suc i) s at = rw (earlier_differs k x xs i s.0 (at_tail k x xs i at), changed_at k f xs i s.1 (at_tail k x xs i at)) refl

    -- taken out
    pub removed_at : (k : K) (xs : List A) (i : ℕ) → Ascends xs → IsPlaceOf key k xs i → filter (λ x. not (E k (key x))) xs ≡ remove xs i
    unfolding IsStrictlySortedBy
    removed_at k [] i s at = absurd (omega (arith, at.within))
    removed_at k (x ∷ xs) zero s at =
        let e : key x ≡ k = at.has_key x in
        rw (lacks_kept k xs (lacks_after k x xs e s.0), e, equal_itself k) refl
    removed_at k (x ∷ xs) (suc i) s at = rw (earlier_differs k x xs i s.0 (at_tail k x xs i at), removed_at k xs i s.1 (at_tail k x xs i at)) refl

    -- found
    pub found_at : (k : K) (xs : List A) (i : ℕ) (d : A) → Ascends xs → IsPlaceOf key k xs i → find (λ x. E k (key x)) xs ≡ Some (slice_index_or xs i d)
    unfolding IsStrictlySortedBy
    found_at k [] i d s at = absurd (omega (arith, at.within))
    found_at k (x ∷ xs) zero d s at =
        let e : key x ≡ k = at.has_key x in
        rw (e, equal_itself k) refl
    found_at k (x ∷ xs) (suc i) d s at = rw (earlier_differs k x xs i s.0 (at_tail k x xs i at)) (found_at k xs i d s.1 (at_tail k x xs i at))

    -- a test for the key
    pub lacks_any : (k : K) (xs : List A) → Lacks k xs → list_any (λ x. E k (key x)) xs ≡ false
    lacks_any k [] h = refl
    lacks_any k (x ∷ xs) h = rw h.0 (lacks_any k xs h.1)

    pub has_any : (k : K) (xs : List A) (i : ℕ) → IsPlaceOf key k xs i → list_any (λ x. E k (key x)) xs ≡ true
    has_any k [] i at = absurd (omega (arith, at.within))
    has_any k (x ∷ xs) zero at =
        let e : key x ≡ k = at.has_key x in
        rw (e, equal_itself k) refl
    has_any k (x ∷ xs) (suc i) at = rw (has_any k xs i (at_tail k x xs i at)) (either (E k (key x)))
      where
        either : (b : Bool) → (b || true) ≡ true
        either true = refl
        either false = refl

    -- around the place of a key
    all_greater : (k : K) (x : A) (xs : List A) → key x ≡ k → AllByRecursion (λ y. R (key x) y ≡ Less) (map key xs) → AllByRecursion (λ y. R (key y) k ≡ Greater) xs
    all_greater k x [] e h = tt
    all_greater k x (y ∷ ys) e h = (less_turned k (key y) (subst (λ (j : K). R j (key y) ≡ Less) e h.0), all_greater k x ys e h.1)

    earlier_less : (k : K) (x : A) (xs : List A) (i : ℕ) → AllByRecursion (λ y. R (key x) y ≡ Less) (map key xs) → IsPlaceOf key k xs i → R (key x) k ≡ Less
    earlier_less k x [] i h at = absurd (omega (arith, at.within))
    earlier_less k x (y ∷ ys) zero h at = subst (λ (j : K). R (key x) j ≡ Less) (at.has_key y) h.0
    earlier_less k x (y ∷ ys) (suc i) h at = earlier_less k x ys i h.1 (at_tail k y ys i at)

    -- how many are less
    lesser : K → List A → ℕ
    lesser k xs = count_by (λ x. is_lt (R (key x) k)) xs

    none_lesser : (k : K) (xs : List A) → AllByRecursion (λ x. R (key x) k ≡ Greater) xs → count_by (λ x. is_lt (R (key x) k)) xs ≡ 0
    none_lesser k [] h = refl
    none_lesser k (x ∷ xs) h = sum_by-cons _ x xs ∙ rw (h.0, none_lesser k xs h.1) refl

    pub count_at : (k : K) (xs : List A) (i : ℕ) → Ascends xs → IsPlaceOf key k xs i → count_by (λ x. is_lt (R (key x) k)) xs ≡ i
    unfolding IsStrictlySortedBy
    count_at k [] i s at = absurd (omega (arith, at.within))
    count_at k (x ∷ xs) zero s at =
        let e : key x ≡ k = at.has_key x in
        sum_by-cons _ x xs ∙ rw (none_lesser k xs (all_greater k x xs e s.0), e, tied_itself o.total k) refl
    count_at k (x ∷ xs) (suc i) s at = sum_by-cons _ x xs ∙ rw (earlier_less k x xs i s.0 (at_tail k x xs i at), count_at k xs i s.1 (at_tail k x xs i at)) (omega arith)

    for_tail : (k : K) (x : A) (xs : List A) (i : ℕ) → IsPlaceFor R key k (x ∷ xs) (suc i) → IsPlaceFor R key k xs i
    for_tail k x xs i gap = record { within = omega (arith, gap.within); before = gap.before.1; after = gap.after }

    pub count_for : (k : K) (xs : List A) (i : ℕ) → IsPlaceFor R key k xs i → count_by (λ x. is_lt (R (key x) k)) xs ≡ i
    count_for k xs zero gap = none_lesser k xs gap.after
    count_for k [] (suc i) gap = absurd (omega (arith, gap.within))
    count_for k (x ∷ xs) (suc i) gap = sum_by-cons _ x xs ∙ rw (gap.before.0, count_for k xs i (for_tail k x xs i gap)) (omega arith)

    all_lack : (k : K) (xs : List A) → AllByRecursion (λ x. R (key x) k ≡ Greater) xs → Lacks k xs
    all_lack k [] h = tt
    all_lack k (x ∷ xs) h = (greater_differs (key x) k h.0, all_lack k xs h.1)

    -- where there is a place for a key, no element has it
    pub lacks_for : (k : K) (xs : List A) (i : ℕ) → IsPlaceFor R key k xs i → Lacks k xs
    lacks_for k xs zero gap = all_lack k xs gap.after
    lacks_for k [] (suc i) gap = absurd (omega (arith, gap.within))
    lacks_for k (x ∷ xs) (suc i) gap = (less_differs (key x) k gap.before.0, lacks_for k xs i (for_tail k x xs i gap))

    -- an element put in its place
    pub placed_for : (y : A) (xs : List A) (i : ℕ) → IsPlaceFor R key (key y) xs i → with_element (λ a b. R (key a) (key b)) y xs ≡ insert xs i y
    placed_for y [] zero gap = refl
    placed_for y (x ∷ xs) zero gap = rw (greater_turned (key x) (key y) gap.after.0) refl
    placed_for y [] (suc i) gap = absurd (omega (arith, gap.within))
    placed_for y (x ∷ xs) (suc i) gap = rw (less_turned (key x) (key y) gap.before.0, placed_for y xs i (for_tail (key y) x xs i gap)) refl

    all_removed : (P : K → Type 0) (xs : List A) (i : ℕ) → AllByRecursion P (map key xs) → AllByRecursion P (map key (remove xs i))
    all_removed P [] zero h = tt
    all_removed P [] (suc i) h = tt
    all_removed P (x ∷ xs) zero h = h.1
    all_removed P (x ∷ xs) (suc i) h = (h.0, all_removed P xs i h.1)

    pub ascends_removed : (xs : List A) (i : ℕ) → Ascends xs → Ascends (remove xs i)
    unfolding IsStrictlySortedBy
    ascends_removed [] zero s = tt
    ascends_removed [] (suc i) s = tt
    ascends_removed (x ∷ xs) zero s = s.1
    ascends_removed (x ∷ xs) (suc i) s = (all_removed (λ y. R (key x) y ≡ Less) xs i s.0, ascends_removed xs i s.1)

    all_inserted : (P : K → Type 0) (y : A) (xs : List A) (i : ℕ) → P (key y) → AllByRecursion P (map key xs) → AllByRecursion P (map key (insert xs i y))
    all_inserted P y [] zero p h = (p, tt)
    all_inserted P y [] (suc i) p h = (p, tt)
    all_inserted P y (x ∷ xs) zero p h = (p, h)
    all_inserted P y (x ∷ xs) (suc i) p h = (h.0, all_inserted P y xs i p h.1)

    all_turned : (y : A) (xs : List A) → AllByRecursion (λ x. R (key x) (key y) ≡ Greater) xs → AllByRecursion (λ j. R (key y) j ≡ Less) (map key xs)
    all_turned y [] h = tt
    all_turned y (x ∷ xs) h = (greater_turned (key x) (key y) h.0, all_turned y xs h.1)

    pub ascends_placed : (y : A) (xs : List A) (i : ℕ) → Ascends xs → IsPlaceFor R key (key y) xs i → Ascends (insert xs i y)
    unfolding IsStrictlySortedBy
    ascends_placed y xs zero s gap = (all_turned y xs gap.after, s)
    ascends_placed y [] (suc i) s gap = absurd (omega (arith, gap.within))
    ascends_placed y (x ∷ xs) (suc i) s gap = (all_inserted (λ j. R (key x) j ≡ Less) y xs i gap.before.0 s.0, ascends_placed y xs i s.1 (for_tail (key y) x xs i gap))

    -- comparisons with a key rise along the list
    rises : (a b k : K) → R a b ≡ Less → ordering_index (R a k) ≤ ordering_index (R b k)
    rises a b k h = risen (R a k) refl
      where
        risen : (r : Ordering) → R a k ≡ r → ordering_index r ≤ ordering_index (R b k)
        risen Less e = omega arith
        risen Equal e = rw (less_turned k b (subst (λ (j : K). R j b ≡ Less) (o.same a k e) h)) (omega arith)
        risen Greater e = rw (less_turned k b (o.total.trans k a b (greater_turned a k e) h)) (omega arith)

    all_rise : (k : K) (x : A) (xs : List A) (j : ℕ) (d : A) → AllByRecursion (λ y. R (key x) y ≡ Less) (map key xs) → j < length xs → ordering_index (R (key x) k) ≤ ordering_index (R (key (get_or xs j d)) k)
    all_rise k x [] j d h lt = absurd (omega arith)
    all_rise k x (y ∷ ys) zero d h lt = rises (key x) (key y) k h.0
    all_rise k x (y ∷ ys) (suc j) d h lt = all_rise k x ys j d h.1 (omega arith)

    comparisons_rise : (k : K) (xs : List A) → Ascends xs → IsNonDecreasingBy (λ y. ordering_index (R (key y) k)) xs
    unfolding IsStrictlySortedBy
    comparisons_rise k [] s i j d le lt = absurd (omega arith)
    comparisons_rise k (x ∷ xs) s zero zero d le lt = omega arith
    comparisons_rise k (x ∷ xs) s zero (suc j) d le lt = all_rise k x xs j d s.0 (omega arith)
    comparisons_rise k (x ∷ xs) s (suc i) zero d le lt = absurd (omega arith)
    comparisons_rise k (x ∷ xs) s (suc i) (suc j) d le lt = comparisons_rise k xs s.1 i j d (omega arith) (omega arith)

    taken : (P : A → Type 0) (xs : List A) (i : ℕ) → AllWithin P xs 0 i → i ≤ length xs → AllByRecursion P (take i xs)
    taken P xs zero h le = tt
    taken P [] (suc i) h le = absurd (omega arith)
    taken P (x ∷ xs) (suc i) h le = (h 0 x (omega arith) (omega arith), taken P xs i (λ j d low high. h (suc j) d (omega arith) (omega arith)) (omega arith))

    dropped : (P : A → Type 0) (xs : List A) (i : ℕ) → AllWithin P xs i (length xs) → AllByRecursion P (drop i xs)
    dropped P [] zero h = tt
    dropped P [] (suc i) h = tt
    dropped P (x ∷ xs) zero h = (h 0 x (omega arith) (omega arith), dropped P xs zero (λ j d low high. h (suc j) d (omega arith) (omega arith)))
    dropped P (x ∷ xs) (suc i) h = dropped P xs i (λ j d low high. h (suc j) d (omega arith) (omega arith))

    -- a key that an element has, has a place; one that none has could stand somewhere
    pub place_there : (k : K) (xs : List A) → list_any (λ x. E k (key x)) xs ≡ true → (i : ℕ) × IsPlaceOf key k xs i
    place_there k [] h = absurd (cc)
    place_there k (x ∷ xs) h = here (E k (key x)) refl (λ e. place_there k xs (rw e at h))
      where
        later : (i : ℕ) × IsPlaceOf key k xs i → (i : ℕ) × IsPlaceOf key k (x ∷ xs) i
        later (i, at) = (suc i, record { within = omega (arith, at.within); has_key = at.has_key })

        here : (b : Bool) → E k (key x) ≡ b → (E k (key x) ≡ false → (i : ℕ) × IsPlaceOf key k xs i) → (i : ℕ) × IsPlaceOf key k (x ∷ xs) i
        here true e rest = (0, record { within = omega arith; has_key = λ d. sym (equal_is k (key x) e) })
        here false e rest = later (rest e)

    all_behind : (k : K) (x : A) (xs : List A) → R k (key x) ≡ Less → AllByRecursion (λ y. R (key x) y ≡ Less) (map key xs) → AllByRecursion (λ y. R (key y) k ≡ Greater) xs
    all_behind k x [] lt h = tt
    all_behind k x (y ∷ ys) lt h = (less_turned k (key y) (o.total.trans k (key x) (key y) lt h.0), all_behind k x ys lt h.1)

    pub place_missing : (k : K) (xs : List A) → Ascends xs → list_any (λ x. E k (key x)) xs ≡ false → (i : ℕ) × IsPlaceFor R key k xs i
    unfolding IsStrictlySortedBy
    place_missing k [] s h = (0, record { within = omega arith; before = tt; after = tt })
    place_missing k (x ∷ xs) s h = here (R (key x) k) refl (λ e. place_missing k xs s.1 (rw (less_differs (key x) k e) at h))
      where
        later : R (key x) k ≡ Less → (i : ℕ) × IsPlaceFor R key k xs i → (i : ℕ) × IsPlaceFor R key k (x ∷ xs) i
        later e (i, gap) = (suc i, record { within = omega (arith, gap.within); before = (e, gap.before); after = gap.after })

        here : (r : Ordering) → R (key x) k ≡ r → (R (key x) k ≡ Less → (i : ℕ) × IsPlaceFor R key k xs i) → (i : ℕ) × IsPlaceFor R key k (x ∷ xs) i
        here Less e rest = later e (rest e)
        here Equal e rest = absurd (false≢true (sym h ∙ ap (λ b. b || list_any (λ y. E k (key y)) xs) (o.ties k (key x) ∙ ap is_eq (o.total.antisymm k (key x) ∙ ap ordering_reverse e))))
        here Greater e rest = (0, record { within = omega arith; before = tt; after = (e, all_behind k x xs (greater_turned (key x) k e) s.0) })

    -- what a binary search answers
    pub searched : (k : K) (xs : List A) (r : Result ℕ ℕ) → Ascends xs → IsSearchInRange r (length xs) → IsBinarySearchResult (λ y. R (key y) k) xs r
        → record { there : is_ok r ≡ list_any (λ x. E k (key x)) xs; found : IfOk r (IsPlaceOf key k xs); absent : IfErr r (IsPlaceFor R key k xs) }
    searched k xs (Ok i) s bound at =
        let place : IsPlaceOf key k xs i = record { within = bound; has_key = λ d. o.same _ k (at d) } in
        record { there = sym (has_any k xs i place); found = place; absent = tt }
    searched k xs (Err i) s bound parted =
        let parts = parted (comparisons_rise k xs s) in
        let place : IsPlaceFor R key k xs i = record { within = bound; before = taken (λ x. R (key x) k ≡ Less) xs i parts.0 bound; after = dropped (λ x. R (key x) k ≡ Greater) xs i parts.1 } in
        record { there = sym (lacks_any k xs (lacks_for k xs i place)); found = tt; absent = place }

    -- where only the place matters
    pub searched_place : (k : K) (xs : List A) (r : Result ℕ ℕ) → Ascends xs → IsSearchInRange r (length xs) → IsBinarySearchResult (λ y. R (key y) k) xs r
        → record { found : IfSome (result_ok r) (IsPlaceOf key k xs); absent : IfNone (result_ok r) (find (λ x. E k (key x)) xs ≡ None) }
    searched_place k xs (Ok i) s bound answer = record { found = (searched k xs (Ok i) s bound answer).found; absent = tt }
    searched_place k xs (Err i) s bound answer = record { found = tt; absent = lacks_find k xs (lacks_for k xs i (searched k xs (Err i) s bound answer).absent) }

    -- places among elements that are seen as others
    module _ {B : Type 0} (seen : B → A) where
      pub place_of_seen : (k : K) (xs : List B) (i : ℕ) → IsPlaceOf (λ x. key (seen x)) k xs i → IsPlaceOf key k (map seen xs) i
      place_of_seen k [] i at = absurd (omega (arith, at.within))
      place_of_seen k (x ∷ xs) zero at = record { within = rw (length-map xs seen) at.within; has_key = λ d. at.has_key x }
      place_of_seen k (x ∷ xs) (suc i) at =
          let rest = place_of_seen k xs i (record { within = omega (arith, at.within); has_key = at.has_key }) in
          record { within = omega (arith, rest.within); has_key = rest.has_key }

      all_seen : (P : K → Type 0) (xs : List B) → AllByRecursion (λ x. P (key (seen x))) xs → AllByRecursion (λ x. P (key x)) (map seen xs)
      all_seen P [] h = tt
      all_seen P (x ∷ xs) h = (h.0, all_seen P xs h.1)

      pub place_for_seen : (k : K) (xs : List B) (i : ℕ) → IsPlaceFor R (λ x. key (seen x)) k xs i → IsPlaceFor R key k (map seen xs) i
      place_for_seen k xs i gap = record {
        within = rw (length-map xs seen) gap.within;
        before = rw (take-map seen i xs) (all_seen (λ j. R j k ≡ Less) (take i xs) gap.before);
        after = rw (drop-map seen i xs) (all_seen (λ j. R j k ≡ Greater) (drop i xs) gap.after);
      }

      pub keys_seen : (xs : List B) → map key (map seen xs) ≡ map (λ x. key (seen x)) xs
      keys_seen [] = refl
      keys_seen (x ∷ xs) = ap (λ ks. key (seen x) ∷ ks) (keys_seen xs)

      pub any_seen : (p : A → Bool) (xs : List B) → list_any p (map seen xs) ≡ list_any (λ x. p (seen x)) xs
      any_seen p [] = refl
      any_seen p (x ∷ xs) = ap (λ b. p (seen x) || b) (any_seen p xs)

  -- the value of a key in a list of pairs
  module _ {X : Type 0} where
    pub lookup_lacks : (k : K) (es : List (K × X)) → Lacks (λ (e : K × X). e.0) k es → lookup (E k) es ≡ None
    lookup_lacks k [] h = refl
    lookup_lacks k (e ∷ es) h = rw h.0 (lookup_lacks k es h.1)

    pub lookup_at : (k : K) (es : List (K × X)) (i : ℕ) (d : K × X) → Ascends (λ (e : K × X). e.0) es → IsPlaceOf (λ (e : K × X). e.0) k es i → lookup (E k) es ≡ Some (slice_index_or es i d).1
    unfolding IsStrictlySortedBy
    lookup_at k [] i d s at = absurd (omega (arith, at.within))
    lookup_at k (e ∷ es) zero d s at =
        let same : e.0 ≡ k = at.has_key e in
        rw (same, equal_itself k) refl
    lookup_at k (e ∷ es) (suc i) d s at =
        let later = at_tail (λ (e : K × X). e.0) k e es i at in
        rw (earlier_differs (λ (e : K × X). e.0) k e es i s.0 later) (lookup_at k es i d s.1 later)

-- what a binary search answers, of elements that are seen as others
pub searched_seen : {K A B : Type 0} {R : K → K → Ordering} {E : K → K → Bool} (o : IsKeyOrder R E) (key : A → K) (seen : B → A) (k : K) (xs : List B) (r : Result ℕ ℕ)
    → IsStrictlySortedBy R (map key (map seen xs)) → IsSearchInRange r (length xs) → IsBinarySearchResult (λ y. R (key (seen y)) k) xs r
    → record { there : is_ok r ≡ list_any (λ x. E k (key x)) (map seen xs); found : IfOk r (IsPlaceOf key k (map seen xs)); absent : IfErr r (IsPlaceFor R key k (map seen xs)) }
searched_seen {R} {E} o key seen k xs r s bound answer = of_seen r (searched o (λ x. key (seen x)) k xs r (subst (IsStrictlySortedBy R) (keys_seen o key seen xs) s) bound answer)
  where
    of_seen : (r : Result ℕ ℕ) → record { there : is_ok r ≡ list_any (λ x. E k (key (seen x))) xs; found : IfOk r (IsPlaceOf (λ x. key (seen x)) k xs); absent : IfErr r (IsPlaceFor R (λ x. key (seen x)) k xs) }
        → record { there : is_ok r ≡ list_any (λ x. E k (key x)) (map seen xs); found : IfOk r (IsPlaceOf key k (map seen xs)); absent : IfErr r (IsPlaceFor R key k (map seen xs)) }
    of_seen (Ok i) h = record { there = h.there ∙ sym (any_seen o key seen (λ x. E k (key x)) xs); found = place_of_seen o key seen k xs i h.found; absent = tt }
    of_seen (Err i) h = record { there = h.there ∙ sym (any_seen o key seen (λ x. E k (key x)) xs); found = tt; absent = place_for_seen o key seen k xs i h.absent }
