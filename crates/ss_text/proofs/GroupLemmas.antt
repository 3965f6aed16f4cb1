-- Lists that rise by a key: the elements of one key stand together, and the first group can be taken off.
use Rattle.std.proofs.Common.{◌≡◌, ◌<◌, ◌≤◌, ℕ, zero, suc, ◌+◌, Bool, true, false, cond, List, [], ◌∷◌, ◌++◌, map, take, drop, refl, sym, ap, subst, ◌∙◌, one-add, length, get_or, arith, Option, Some, None}
use Rattle.std.specs.Prelude.{filter, not, slice_get}
use Rattle.std.specs.declared.cmp.Ordering.{Ordering}
use Rattle.std.specs.declared.cmp.Ordering.TheVariants.{Less, Equal, Greater}
use Rattle.std.specs.List.{AllByRecursion, AllWithin, prefix_len}
use Rattle.std.specs.List.Sorted.{IsStrictlySortedBy, IsPartitionedBy}
use Rattle.std.specs.Cmp.{IsTotalOrder}
use Rattle.std.specs.Ordering.{is_gt, is_eq, on, then_cmp, ordering_then, ordering_reverse}
use Rattle.std.proofs.lemmas.Cmp.{tied_itself, alike_right}
use Rattle.ss_text.specs.Ascending.{by_order, with_element, ascending, lesser, least}
use Rattle.ss_text.proofs.KeyLemmas.{IsKeyOrder, equal_itself, equal_is, less_differs}

-- what holds of each element
module _ {A : Type 0} (P : A → Type 0) where
  pub all_drop : (n : ℕ) (xs : List A) → AllByRecursion P xs → AllByRecursion P (drop n xs)
  all_drop zero xs h = h
  all_drop (suc n) [] h = tt
  all_drop (suc n) (x ∷ xs) h = all_drop n xs h.1

  pub all_front : (xs ys : List A) → AllByRecursion P (xs ++ ys) → AllByRecursion P xs
  all_front [] ys h = tt
  all_front (x ∷ xs) ys h = (h.0, all_front xs ys h.1)

  pub all_filter : (p : A → Bool) (xs : List A) → AllByRecursion P xs → AllByRecursion P (filter p xs)
  all_filter p [] h = tt
  all_filter p (x ∷ xs) h = kept (p x) (h.0) (all_filter p xs h.1)
    where
      kept : (b : Bool) → P x → AllByRecursion P (filter p xs) → AllByRecursion P (cond b (x ∷ filter p xs) (filter p xs))
      kept true here rest = (here, rest)
      kept false here rest = rest

-- lists that ascend strictly
module _ {A : Type 0} (C : A → A → Ordering) where
  pub strict_drop : (n : ℕ) (xs : List A) → IsStrictlySortedBy C xs → IsStrictlySortedBy C (drop n xs)
  unfolding IsStrictlySortedBy
  strict_drop zero xs h = h
  strict_drop (suc n) [] h = h
  strict_drop (suc n) (x ∷ xs) h = strict_drop n xs h.1

  pub strict_front : (xs ys : List A) → IsStrictlySortedBy C (xs ++ ys) → IsStrictlySortedBy C xs
  unfolding IsStrictlySortedBy
  strict_front [] ys h = tt
  strict_front (x ∷ xs) ys h = (all_front (λ (y : A). C x y ≡ Less) xs ys h.0, strict_front xs ys h.1)

-- by a key, and the keys themselves
module _ {A K : Type 0} (R : K → K → Ordering) (key : A → K) where
  all_keys : (P : K → Type 0) (xs : List A) → AllByRecursion (λ (x : A). P (key x)) xs → AllByRecursion P (map key xs)
  all_keys P [] h = tt
  all_keys P (x ∷ xs) h = (h.0, all_keys P xs h.1)

  pub strict_keys : (xs : List A) → IsStrictlySortedBy (on key R) xs → IsStrictlySortedBy R (map key xs)
  unfolding IsStrictlySortedBy
  strict_keys [] h = tt
  strict_keys (x ∷ xs) h = (all_keys (λ (k : K). R (key x) k ≡ Less) xs h.0, strict_keys xs h.1)

-- what `ascending` gives ascends strictly
module _ {A : Type 0} {R : A → A → Ordering} (o : IsTotalOrder R) where
  pub all_with : (P : A → Type 0) (x : A) (ys : List A) → P x → AllByRecursion P ys → AllByRecursion P (with_element R x ys)
  all_with P x [] p h = (p, tt)
  all_with P x (y ∷ ys) p h = by_case (R x y) (all_with P x ys p h.1)
    where
      by_case : (r : Ordering) → AllByRecursion P (with_element R x ys) → AllByRecursion P (by_order r (x ∷ y ∷ ys) (y ∷ ys) (y ∷ with_element R x ys))
      by_case Less rest = (p, h)
      by_case Equal rest = h
      by_case Greater rest = (h.0, rest)

  pub all_ascending : (P : A → Type 0) (xs : List A) → AllByRecursion P xs → AllByRecursion P (ascending R xs)
  all_ascending P [] h = tt
  all_ascending P (x ∷ xs) h = all_with P x (ascending R xs) h.0 (all_ascending P xs h.1)

  less_than_all : (x y : A) (ys : List A) → R x y ≡ Less → AllByRecursion (λ (z : A). R y z ≡ Less) ys → AllByRecursion (λ (z : A). R x z ≡ Less) ys
  less_than_all x y [] e h = tt
  less_than_all x y (z ∷ zs) e h = (o.trans x y z e h.0, less_than_all x y zs e h.1)

  strict_with : (x : A) (ys : List A) → IsStrictlySortedBy R ys → IsStrictlySortedBy R (with_element R x ys)
  unfolding IsStrictlySortedBy
  strict_with x [] h = (tt, tt)
  strict_with x (y ∷ ys) h = by_case (R x y) refl (strict_with x ys h.1)
    where
      by_case : (r : Ordering) → R x y ≡ r → IsStrictlySortedBy R (with_element R x ys) → IsStrictlySortedBy R (by_order r (x ∷ y ∷ ys) (y ∷ ys) (y ∷ with_element R x ys))
      by_case Less e rest = ((e, less_than_all x y ys e h.0), h)
      by_case Equal e rest = h
      by_case Greater e rest = (all_with (λ (z : A). R y z ≡ Less) x ys (o.antisymm y x ∙ ap ordering_reverse e) h.0, rest)

  pub strict_ascending : (xs : List A) → IsStrictlySortedBy R (ascending R xs)
  unfolding IsStrictlySortedBy
  strict_ascending [] = tt
  strict_ascending (x ∷ xs) = strict_with x (ascending R xs) (strict_ascending xs)

  -- an element that is less than all others stands first
  with_least : (x : A) (ys : List A) → AllByRecursion (λ (y : A). R x y ≡ Less) ys → with_element R x ys ≡ x ∷ ys
  with_least x [] h = refl
  with_least x (y ∷ ys) h = rw h.0 refl

  -- a list that ascends strictly is its own
  pub ascending_strict : (xs : List A) → IsStrictlySortedBy R xs → ascending R xs ≡ xs
  unfolding IsStrictlySortedBy
  ascending_strict [] h = refl
  ascending_strict (x ∷ xs) h = ap (with_element R x) (ascending_strict xs h.1) ∙ with_least x xs h.0

pub map_agree : {A B : Type 0} (f g : A → B) (xs : List A) → AllByRecursion (λ (x : A). f x ≡ g x) xs → map f xs ≡ map g xs
map_agree f g [] h = refl
map_agree f g (x ∷ xs) h = rw (h.0, map_agree f g xs h.1) refl

pub all_weaker : {A : Type 0} (P Q : A → Type 0) → ((x : A) → P x → Q x) → (xs : List A) → AllByRecursion P xs → AllByRecursion Q xs
all_weaker P Q f [] h = tt
all_weaker P Q f (x ∷ xs) h = (f x h.0, all_weaker P Q f xs h.1)

module _ {A K : Type 0} {R : K → K → Ordering} {E : K → K → Bool} (o : IsKeyOrder R E) (key : A → K) where
  -- no element has a greater key than a later one
  abbrev pub Rises : List A → Type 0
  Rises [] = Unit {0}
  Rises (x ∷ xs) = AllByRecursion (λ (y : A). is_gt (R (key x) (key y)) ≡ false) xs × Rises xs

  -- what is in order by the key and then by another order rises by the key,
  pub rises : (S : A → A → Ordering) (xs : List A) → IsStrictlySortedBy (then_cmp (on key R) S) xs → Rises xs
  unfolding IsStrictlySortedBy
  rises S [] h = tt
  rises S (x ∷ xs) h = (all_not_greater x xs h.0, rises S xs h.1)
    where
      not_greater : (r s : Ordering) → ordering_then r s ≡ Less → is_gt r ≡ false
      not_greater Less s e = refl
      not_greater Equal s e = refl
      not_greater Greater s e = absurd (cc)

      all_not_greater : (x : A) (ys : List A) → AllByRecursion (λ (y : A). ordering_then (R (key x) (key y)) (S x y) ≡ Less) ys → AllByRecursion (λ (y : A). is_gt (R (key x) (key y)) ≡ false) ys
      all_not_greater x [] g = tt
      all_not_greater x (y ∷ ys) g = (not_greater (R (key x) (key y)) (S x y) g.0, all_not_greater x ys g.1)

  -- and the elements of one key are in the other order
  inner_after : (S : A → A → Ordering) (k : K) (x : A) (ys : List A) → key x ≡ k → AllByRecursion (λ (y : A). ordering_then (R (key x) (key y)) (S x y) ≡ Less) ys
      → AllByRecursion (λ (y : A). S x y ≡ Less) (filter (λ (y : A). E k (key y)) ys)
  inner_after S k x [] e h = tt
  inner_after S k x (y ∷ ys) e h = kept (E k (key y)) refl (inner_after S k x ys e h.1)
    where
      second : (r s : Ordering) → r ≡ Equal → ordering_then r s ≡ Less → s ≡ Less
      second Less s f g = absurd (cc)
      second Equal s f g = g
      second Greater s f g = absurd (cc)

      kept : (b : Bool) → E k (key y) ≡ b → AllByRecursion (λ (z : A). S x z ≡ Less) (filter (λ (z : A). E k (key z)) ys)
          → AllByRecursion (λ (z : A). S x z ≡ Less) (cond b (y ∷ filter (λ (z : A). E k (key z)) ys) (filter (λ (z : A). E k (key z)) ys))
      kept true f rest = (second (R (key x) (key y)) (S x y) (rw (e, ← equal_is o k (key y) f) (tied_itself o.total k)) h.0, rest)
      kept false f rest = rest

  pub inner : (S : A → A → Ordering) (k : K) (xs : List A) → IsStrictlySortedBy (then_cmp (on key R) S) xs → IsStrictlySortedBy S (filter (λ (x : A). E k (key x)) xs)
  unfolding IsStrictlySortedBy
  inner S k [] h = tt
  inner S k (x ∷ xs) h = kept (E k (key x)) refl (inner S k xs h.1)
    where
      kept : (b : Bool) → E k (key x) ≡ b → IsStrictlySortedBy S (filter (λ (y : A). E k (key y)) xs) → IsStrictlySortedBy S (cond b (x ∷ filter (λ (y : A). E k (key y)) xs) (filter (λ (y : A). E k (key y)) xs))
      kept true f rest = (inner_after S k x xs (sym (equal_is o k (key x) f)) h.0, rest)
      kept false f rest = rest

  -- a list whose keys are none less than k: first those of k, and then those of greater keys
  front : K → List A → ℕ
  front k ys = prefix_len (λ (y : A). E k (key y)) ys

  NotLess : K → List A → Type 0
  NotLess k ys = AllByRecursion (λ (y : A). is_gt (R k (key y)) ≡ false) ys

  Greater_than : K → List A → Type 0
  Greater_than k ys = AllByRecursion (λ (y : A). R k (key y) ≡ Less) ys

  less : (k j : K) → is_gt (R k j) ≡ false → E k j ≡ false → R k j ≡ Less
  less k j not_greater differs = decided (R k j) not_greater (sym (o.ties k j) ∙ differs)
    where
      decided : (r : Ordering) → is_gt r ≡ false → is_eq r ≡ false → r ≡ Less
      decided Less g e = refl
      decided Equal g e = absurd (cc)
      decided Greater g e = absurd (cc)

  -- above a key that is greater than k
  above : (k : K) (j : K) (ys : List A) → R k j ≡ Less → AllByRecursion (λ (y : A). is_gt (R j (key y)) ≡ false) ys → AllByRecursion (λ (y : A). R k (key y) ≡ Less) ys
  above k j [] e h = tt
  above k j (y ∷ ys) e h = (chained (R j (key y)) refl h.0, above k j ys e h.1)
    where
      chained : (r : Ordering) → R j (key y) ≡ r → is_gt r ≡ false → R k (key y) ≡ Less
      chained Less f g = o.total.trans k j (key y) e f
      chained Equal f g = subst (λ (i : K). R k i ≡ Less) (o.same j (key y) f) e
      chained Greater f g = absurd (cc)

  none_of : (k : K) (ys : List A) → AllByRecursion (λ (y : A). R k (key y) ≡ Less) ys → filter (λ (y : A). E k (key y)) ys ≡ []
  none_of k [] h = refl
  none_of k (y ∷ ys) h = rw (o.ties k (key y), h.0) (none_of k ys h.1)

  -- the first n elements are those of k, and all others have greater keys
  record IsSplit (k : K) (ys : List A) (n : ℕ) : Type 0 where
    taken : filter (λ (y : A). E k (key y)) ys ≡ take n ys
    past : AllByRecursion (λ (y : A). R k (key y) ≡ Less) (drop n ys)
    others : (j : K) → R k j ≡ Less → filter (λ (y : A). E j (key y)) ys ≡ filter (λ (y : A). E j (key y)) (drop n ys)
    keys : with_element R k (ascending R (map key ys)) ≡ k ∷ ascending R (map key (drop n ys))

  one_more : (k : K) (y : A) (ys : List A) (n : ℕ) → E k (key y) ≡ true → IsSplit k ys n → IsSplit k (y ∷ ys) (suc n)
  one_more k y ys n e rest = record {
    taken = rw e (ap (λ (zs : List A). y ∷ zs) rest.taken);
    past = rest.past;
    others = λ j f. rw (← equal_is o k (key y) e, less_differs o k j f) (rest.others j f);
    keys = rw (← equal_is o k (key y) e, rest.keys, tied_itself o.total k) refl;
  }

  no_more : (k : K) (ys : List A) → AllByRecursion (λ (y : A). R k (key y) ≡ Less) ys → IsSplit k ys 0
  no_more k ys all = record {
    taken = none_of k ys all;
    past = all;
    others = λ j f. refl;
    keys = with_least o.total k (ascending R (map key ys)) (all_ascending o.total (λ (j : K). R k j ≡ Less) (map key ys) (all_keys R key (λ (j : K). R k j ≡ Less) ys all));
  }

  split : (k : K) (ys : List A) → AllByRecursion (λ (y : A). is_gt (R k (key y)) ≡ false) ys → Rises ys → IsSplit k ys (prefix_len (λ (y : A). E k (key y)) ys)
  split k [] h s = no_more k [] tt
  split k (y ∷ ys) h s = by_test (E k (key y)) refl (split k ys h.1 s.1)
    where
      by_test : (b : Bool) → E k (key y) ≡ b → IsSplit k ys (prefix_len (λ (z : A). E k (key z)) ys) → IsSplit k (y ∷ ys) (cond b (1 + prefix_len (λ (z : A). E k (key z)) ys) 0)
      by_test true e rest = rw one-add (one_more k y ys (prefix_len (λ (z : A). E k (key z)) ys) e rest)
      by_test false e rest =
          let first = less k (key y) h.0 e in
          no_more k (y ∷ ys) (first, above k (key y) ys first s.0)

  -- what h gives of each key and its elements, the keys ascending
  abbrev pub grouped : {B : Type 0} → (K → List A → B) → List A → List B
  grouped h xs = map (λ (k : K). h k (filter (λ (x : A). E k (key x)) xs)) (ascending R (map key xs))

  module _ (x : A) (xs : List A) (s : Rises (x ∷ xs)) where
    more : ℕ
    more = prefix_len (λ (y : A). E (key x) (key y)) xs

    count_is : prefix_len (λ (y : A). E (key x) (key y)) (x ∷ xs) ≡ suc more
    unfolding more
    count_is = rw (equal_itself o (key x), one-add)

    behind : IsSplit (key x) xs more
    unfolding more
    behind = split (key x) xs s.0 s.1

    all : IsSplit (key x) (x ∷ xs) (suc more)
    all = one_more (key x) x xs more (equal_itself o (key x)) behind

    -- the elements of the first key are those at the front
    pub first_taken : (n : ℕ) → n ≡ prefix_len (λ (y : A). E (key x) (key y)) (x ∷ xs) → filter (λ (y : A). E (key x) (key y)) (x ∷ xs) ≡ take n (x ∷ xs)
    first_taken n e = rw (e, count_is) all.taken

    -- the first group, and those of what is left
    pub first_group : {B : Type 0} (h : K → List A → B) (n : ℕ) → n ≡ prefix_len (λ (y : A). E (key x) (key y)) (x ∷ xs)
        → grouped h (x ∷ xs) ≡ h (key x) (take n (x ∷ xs)) ∷ grouped h (drop n (x ∷ xs))
    first_group h n e =
        let later : AllByRecursion (λ (j : K). R (key x) j ≡ Less) (ascending R (map key (drop more xs))) =
        all_ascending o.total (λ (j : K). R (key x) j ≡ Less) (map key (drop more xs)) (all_keys R key (λ (j : K). R (key x) j ≡ Less) (drop more xs) behind.past) in
        rw (e, count_is, behind.keys, all.taken)
        (ap (λ gs. h (key x) (take (suc more) (x ∷ xs)) ∷ gs)
        (map_agree (λ (k : K). h k (filter (λ (y : A). E k (key y)) (x ∷ xs))) (λ (k : K). h k (filter (λ (y : A). E k (key y)) (drop more xs))) (ascending R (map key (drop more xs)))
        (all_weaker (λ (j : K). R (key x) j ≡ Less) _ (λ j f. ap (h j) (all.others j f)) (ascending R (map key (drop more xs))) later)))

  -- the same of a list whose first element is x
  module _ (xs : List A) (x : A) (n : ℕ) (s : Rises xs) (first : Some x ≡ slice_get xs 0) (count : n ≡ prefix_len (λ (y : A). E (key x) (key y)) xs) where
    pub next_taken : filter (λ (y : A). E (key x) (key y)) xs ≡ take n xs
    next_taken = from_first xs s first count
      where
        from_first : (ys : List A) → Rises ys → Some x ≡ slice_get ys 0 → n ≡ prefix_len (λ (y : A). E (key x) (key y)) ys → filter (λ (y : A). E (key x) (key y)) ys ≡ take n ys
        from_first [] r f e = absurd (cc)
        from_first (y ∷ ys) r f e =
            let same : y ≡ x = cc in
            subst (λ (z : A). n ≡ prefix_len (λ (w : A). E (key z) (key w)) (y ∷ ys) → filter (λ (w : A). E (key z) (key w)) (y ∷ ys) ≡ take n (y ∷ ys)) same (first_taken y ys r n) e

    pub next_group : {B : Type 0} (h : K → List A → B) → grouped h xs ≡ h (key x) (take n xs) ∷ grouped h (drop n xs)
    next_group h = from_first xs s first count
      where
        from_first : (ys : List A) → Rises ys → Some x ≡ slice_get ys 0 → n ≡ prefix_len (λ (y : A). E (key x) (key y)) ys → grouped h ys ≡ h (key x) (take n ys) ∷ grouped h (drop n ys)
        from_first [] r f e = absurd (cc)
        from_first (y ∷ ys) r f e =
            let same : y ≡ x = cc in
            subst (λ (z : A). n ≡ prefix_len (λ (w : A). E (key z) (key w)) (y ∷ ys) → grouped h (y ∷ ys) ≡ h (key z) (take n (y ∷ ys)) ∷ grouped h (drop n (y ∷ ys))) same (first_group y ys r h n) e

-- what a partition point says, part by part
module _ {A : Type 0} (P : A → Type 0) where
  pub all_taken : (xs : List A) (n : ℕ) → AllWithin P xs 0 n → n ≤ length xs → AllByRecursion P (take n xs)
  all_taken xs zero h le = tt
  all_taken [] (suc n) h le = absurd (omega arith)
  all_taken (x ∷ xs) (suc n) h le = (h 0 x (omega arith) (omega arith), all_taken xs n (λ k d low high. h (suc k) d (omega arith) (omega arith)) (omega arith))

  pub all_dropped : (xs : List A) (n : ℕ) → AllWithin P xs n (length xs) → AllByRecursion P (drop n xs)
  all_dropped [] zero h = tt
  all_dropped [] (suc n) h = tt
  all_dropped (x ∷ xs) zero h = (h 0 x (omega arith) (omega arith), all_dropped xs zero (λ k d low high. h (suc k) d (omega arith) (omega arith)))
  all_dropped (x ∷ xs) (suc n) h = all_dropped xs n (λ k d low high. h (suc k) d (omega arith) (omega arith))

-- a list whose keys ascend strictly, up to a limit
module _ {A K : Type 0} {R : K → K → Ordering} (o : IsTotalOrder R) (key : A → K) (limit : K) where
  earlier_within : (x y : K) → R x y ≡ Less → not (is_gt (R y limit)) ≡ true → not (is_gt (R x limit)) ≡ true
  earlier_within x y e h = chained (R y limit) refl h
    where
      chained : (r : Ordering) → R y limit ≡ r → not (is_gt r) ≡ true → not (is_gt (R x limit)) ≡ true
      chained Less f g = rw (o.trans x y limit e f) refl
      chained Equal f g =
          let below : R x limit ≡ Less = sym (alike_right o y limit x f) ∙ e in
          rw below refl
      chained Greater f g = absurd (cc)

  less_at : (k : K) (xs : List A) (j : ℕ) (d : A) → AllByRecursion (λ (y : K). R k y ≡ Less) (map key xs) → j < length xs → R k (key (get_or xs j d)) ≡ Less
  less_at k [] j d h lt = absurd (omega arith)
  less_at k (x ∷ xs) zero d h lt = h.0
  less_at k (x ∷ xs) (suc j) d h lt = less_at k xs j d h.1 (omega arith)

  -- no key that is within the limit comes after one that is past it
  pub partitioned : (xs : List A) → IsStrictlySortedBy R (map key xs) → IsPartitionedBy (λ (x : A). not (is_gt (R (key x) limit))) xs
  unfolding IsStrictlySortedBy
  partitioned [] s i j d le lt h = absurd (omega arith)
  partitioned (x ∷ xs) s zero zero d le lt h = h
  partitioned (x ∷ xs) s zero (suc j) d le lt h = earlier_within (key x) (key (get_or xs j d)) (less_at (key x) xs j d s.0 (omega arith)) h
  partitioned (x ∷ xs) s (suc i) zero d le lt h = absurd (omega arith)
  partitioned (x ∷ xs) s (suc i) (suc j) d le lt h = partitioned xs s.1 i j d (omega arith) (omega arith) h

-- the least of a list whose first is less than all others
module _ {A : Type 0} (R : A → A → Ordering) (x : A) where
  IfThere : Option A → Type 0
  IfThere None = Unit {0}
  IfThere (Some y) = R x y ≡ Less

  lesser_has : (y : A) (l : Option A) → R x y ≡ Less → IfThere l → IfThere (lesser R y l)
  unfolding IfThere
  lesser_has y None e h = e
  lesser_has y (Some z) e h = by_case (R y z)
    where
      by_case : (r : Ordering) → IfThere (by_order r (Some y) (Some y) (Some z))
      by_case Less = e
      by_case Equal = e
      by_case Greater = h

  least_has : (ys : List A) → AllByRecursion (λ (y : A). R x y ≡ Less) ys → IfThere (least R ys)
  unfolding IfThere
  least_has [] h = tt
  least_has (y ∷ ys) h = lesser_has y (least R ys) h.0 (least_has ys h.1)

  by_least : (l : Option A) → IfThere l → lesser R x l ≡ Some x
  unfolding IfThere
  by_least None h = refl
  by_least (Some y) h = rw h refl

  pub least_of_first : (xs : List A) → AllByRecursion (λ (y : A). R x y ≡ Less) xs → least R (x ∷ xs) ≡ Some x
  least_of_first xs h = by_least (least R xs) (least_has xs h)
