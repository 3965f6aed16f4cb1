-- Elements that change one by one, and facts on each of them.
use Rattle.std.proofs.Common.{◌≡◌, ◌≢◌, ◌<◌, ◌+◌, ◌++◌, ◌∷◌, [], ℕ, List, refl, sym, ◌∙◌, ap, zero, suc, map, take, drop, length, get_or, set, arith, length-set, get_or-set_other}
use Rattle.std.specs.List.{All, AllWithin, AllByRecursion}
use Rattle.std.proofs.lemmas.List.{map-set, get_or-map, length-map, length-append, length-take, length-drop, take_at}
use Rattle.std.proofs.lemmas.List.Edits.{map_over_more}
use Rattle.ss_text.proofs.PlaceLemmas.{each_at}
use Rattle.row_shelves.specs.Shelves.{joined}

pub all_each : {X : Type 0} (P : X → Type 0) (xs : List X) → AllByRecursion P xs → All P xs
all_each P xs h k d lt = each_at P xs k d lt h

pub each_all : {X : Type 0} (P : X → Type 0) (xs : List X) → All P xs → AllByRecursion P xs
each_all P [] h = tt
each_all P (x ∷ xs) h = (h 0 x (omega arith), each_all P xs (λ k d lt. h (suc k) d (omega arith)))

-- what holds of each element of each part
left_of : {X : Type 0} (P : X → Type 0) (xs ys : List X) → AllByRecursion P (xs ++ ys) → AllByRecursion P xs
left_of P [] ys h = tt
left_of P (x ∷ xs) ys h = (h.0, left_of P xs ys h.1)

right_of : {X : Type 0} (P : X → Type 0) (xs ys : List X) → AllByRecursion P (xs ++ ys) → AllByRecursion P ys
right_of P [] ys h = h
right_of P (x ∷ xs) ys h = right_of P xs ys h.1

both_of : {X : Type 0} (P : X → Type 0) (xs ys : List X) → AllByRecursion P xs → AllByRecursion P ys → AllByRecursion P (xs ++ ys)
both_of P [] ys h g = g
both_of P (x ∷ xs) ys h g = (h.0, both_of P xs ys h.1 g)

pub on_each : {S A : Type 0} (rows : S → List A) (P : A → Type 0) (ss : List S) → AllByRecursion P (joined rows ss) → All (λ s. All P (rows s)) ss
on_each {S} rows P ss h = all_each (λ s. All P (rows s)) ss (parts ss h)
  where
    parts : (ss : List S) → AllByRecursion P (joined rows ss) → AllByRecursion (λ s. All P (rows s)) ss
    parts [] h = tt
    parts (s ∷ ss) h = (all_each P (rows s) (left_of P (rows s) (joined rows ss) h), parts ss (right_of P (rows s) (joined rows ss) h))

pub of_each : {S A : Type 0} (rows : S → List A) (P : A → Type 0) (ss : List S) → All (λ s. All P (rows s)) ss → AllByRecursion P (joined rows ss)
of_each {S} rows P ss h = parts ss (each_all (λ s. All P (rows s)) ss h)
  where
    parts : (ss : List S) → AllByRecursion (λ s. All P (rows s)) ss → AllByRecursion P (joined rows ss)
    parts [] h = tt
    parts (s ∷ ss) h = both_of P (rows s) (joined rows ss) (each_all P (rows s) h.0) (parts ss h.1)

-- one element more is changed
pub one_more : {X Y : Type 0} (see : X → Y) (f : Y → Y) (old : List Y) (now : List X) (i : ℕ) (d new : X)
    → i < length now → map see now ≡ map f (take i old) ++ drop i old → see new ≡ f (see (get_or now i d))
    → map see (set now i new) ≡ map f (take (i + 1) old) ++ drop (i + 1) old
one_more see f old now i d new lt done e =
    map-set see now i new ∙ ap (λ v. set (map see now) i v) e
    ∙ map_over_more f old (map see now) i (see (get_or now i d)) shorter done (sym (get_or-map see now i d (see (get_or now i d)) lt))
  where
    shorter : i < length old
    shorter = omega (arith, simp (length-map, length-append, length-take, length-drop) at (ap length done))

here_is : {X : Type 0} (xs : List X) (i : ℕ) (d e : X) → i < length xs → get_or xs i d ≡ get_or xs i e
here_is [] i d e lt = absurd (omega arith)
here_is (x ∷ xs) zero d e lt = refl
here_is (x ∷ xs) (suc i) d e lt = here_is xs i d e (omega arith)

pub one_row_more : {X : Type 0} (f : X → X) (old now : List X) (i : ℕ) (d new : X)
    → i < length now → now ≡ map f (take i old) ++ drop i old → new ≡ f (get_or now i d)
    → set now i new ≡ map f (take (i + 1) old) ++ drop (i + 1) old
one_row_more f old now i d new lt done e =
    ap (λ v. set now i v) e ∙ map_over_more f old now i (get_or now i d) shorter done (here_is now i d (get_or now i d) lt)
  where
    shorter : i < length old
    shorter = omega (arith, simp (length-map, length-append, length-take, length-drop) at (ap length done))

-- the elements behind a place, after a write there
pub rest_kept : {X : Type 0} (P : X → Type 0) (xs : List X) (i : ℕ) (new : X) → AllWithin P xs i (length xs) → AllWithin P (set xs i new) (i + 1) (length (set xs i new))
rest_kept P xs i new h k d low high =
    let other : k ≢ i = omega arith in
    rw (get_or-set_other xs i k new d other) (h k d (omega arith) (rw length-set at high))

-- an element put back that is seen as it was
pub seen_set : {X Y : Type 0} (see : X → Y) (xs : List X) (i : ℕ) (d new : X) → i < length xs → see new ≡ see (get_or xs i d) → map see (set xs i new) ≡ map see xs
seen_set see [] i d new lt e = absurd (omega arith)
seen_set see (x ∷ xs) zero d new lt e = ap (λ y. y ∷ map see xs) e
seen_set see (x ∷ xs) (suc i) d new lt e = ap (λ ys. see x ∷ ys) (seen_set see xs i d new (omega arith) e)

-- and one that has what the one before it had
pub all_set : {X : Type 0} (P : X → Type 0) (xs : List X) (i : ℕ) (new : X) → All P xs → P new → All P (set xs i new)
all_set {X} P xs i new h p = all_each P (set xs i new) (each xs i (each_all P xs h))
  where
    each : (xs : List X) (i : ℕ) → AllByRecursion P xs → AllByRecursion P (set xs i new)
    each [] i h = tt
    each (x ∷ xs) zero h = (p, h.1)
    each (x ∷ xs) (suc i) h = (h.0, each xs i h.1)

-- what a slice of all elements puts back
pub all_written : {X : Type 0} (n : ℕ) (new old : List X) → length new ≡ n → take n (new ++ drop (length new) old) ≡ new
all_written n new old e = take_at new (drop (length new) old) n e
