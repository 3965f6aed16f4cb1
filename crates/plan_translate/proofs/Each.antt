-- Joins of a list, one after another.
use Rattle.std.proofs.Common.{◌≡◌, ◌≢◌, ◌<◌, ◌≤◌, ◌+◌, ℕ, zero, suc, List, [], ◌∷◌, ◌++◌, length, map, take, drop, get_or, set, refl, ap, sym, ◌∙◌, subst, arith, Some, inl, inr, ◌⊎◌, length-set, get_or-set_same, get_or-set_other}
use Rattle.std.specs.List.{AllZip}
use Rattle.std.proofs.lemmas.List.{length_push, length-append, length-map, map-append, take_more, take_more_set, take_at}
use Rattle.operator_law.specs.declared.delta.Signed.{Signed}
use Rattle.join_delta.specs.Joins.{JoinValue}
use Rattle.plan_translate.specs.Sides.{LikeJoin, CanMove, Moved, AllMoved}

abbrev pub Pair : Type 0
Pair = List Signed × List Signed

-- joins that are like themselves, and one after another
like_self : (j : JoinValue) → LikeJoin j j
like_self j = record { keys = record { left = refl; right = refl }; left = λ f. refl; right = λ f. refl }

pub like_on : (a b c : JoinValue) → LikeJoin a b → LikeJoin b c → LikeJoin a c
like_on a b c x y = record {
  keys = record { left = y.keys.left ∙ x.keys.left; right = y.keys.right ∙ x.keys.right };
  left = λ f. x.left f ∙ y.left f;
  right = λ f. x.right f ∙ y.right f;
}

pub like_selves : (js : List JoinValue) → AllZip LikeJoin js js
like_selves [] = tt
like_selves (j ∷ js) = (like_self j, like_selves js)

-- one of them is put back
pub like_set : (xs ys : List JoinValue) (i : ℕ) (new d : JoinValue) → AllZip LikeJoin xs ys → i < length ys → d ≡ get_or ys i d → LikeJoin d new → AllZip LikeJoin xs (set ys i new)
like_set [] [] i new d all lt at like = absurd (omega (arith, lt))
like_set [] (y ∷ ys) i new d all lt at like = absurd all
like_set (x ∷ xs) [] i new d all lt at like = absurd all
like_set (x ∷ xs) (y ∷ ys) zero new d all lt at like = (like_on x y new all.0 (subst (λ (j : JoinValue). LikeJoin j new) at like), all.1)
like_set (x ∷ xs) (y ∷ ys) (suc i) new d all lt at like = (all.0, like_set xs ys i new d all.1 (omega (arith, lt)) at like)

-- where the first ones can go, those that are like them can go
pub can_at : (xs ys : List JoinValue) (ms : List Pair) (i : ℕ) (d : JoinValue) (e : Pair) → AllZip CanMove xs ms → AllZip LikeJoin xs ys → i < length ys → d ≡ get_or ys i d → e ≡ get_or ms i e → CanMove d e
can_at [] [] ms i d e can like lt at is = absurd (omega (arith, lt))
can_at [] (y ∷ ys) ms i d e can like lt at is = absurd like
can_at (x ∷ xs) [] ms i d e can like lt at is = absurd like
can_at (x ∷ xs) (y ∷ ys) [] i d e can like lt at is = absurd can
can_at (x ∷ xs) (y ∷ ys) (m ∷ ms) zero d e can like lt at is =
    let here : CanMove y m = record {
      left_rows = can.0.left_rows;
      right_rows = can.0.right_rows;
      left = λ f. omega (arith, can.0.left f, like.0.left f);
      right = λ f. omega (arith, can.0.right f, like.0.right f);
    } in
    subst (λ (j : JoinValue). CanMove j e) (sym at) (subst (CanMove y) (sym is) here)
can_at (x ∷ xs) (y ∷ ys) (m ∷ ms) (suc i) d e can like lt at is = can_at xs ys ms i d e can.1 like.1 (omega (arith, lt)) at is

pub zip_long : {A B : Type 0} (R : A → B → Type 0) (xs : List A) (ys : List B) → AllZip R xs ys → length ys ≡ length xs
zip_long R [] [] all = refl
zip_long R [] (y ∷ ys) all = absurd all
zip_long R (x ∷ xs) [] all = absurd all
zip_long R (x ∷ xs) (y ∷ ys) all = ap suc (zip_long R xs ys all.1)

-- ---- what waits in a join
pub waits_at : (xs : List JoinValue) (ms : List Pair) (i : ℕ) (d : JoinValue) (e : Pair) → map (λ (j : JoinValue). j.waiting) xs ≡ map Some ms → i < length xs → (get_or xs i d).waiting ≡ Some (get_or ms i e)
waits_at [] ms i d e same lt = absurd (omega (arith, lt))
waits_at (x ∷ xs) [] i d e same lt = cc
waits_at (x ∷ xs) (m ∷ ms) zero d e same lt = cc
waits_at (x ∷ xs) (m ∷ ms) (suc i) d e same lt =
    let rest : map (λ (j : JoinValue). j.waiting) xs ≡ map Some ms = cc in waits_at xs ms i d e rest (omega (arith, lt))

-- from place n on all are moved, those before are as they were
pub record MovedFrom (xs : List JoinValue) (ms : List Pair) (ys : List JoinValue) (n : ℕ) : Type 0 where
  pub long : length ys ≡ length xs
  pub same : (i : ℕ) (d : JoinValue) → i < n → get_or ys i d ≡ get_or xs i d
  pub moved : (i : ℕ) (d : JoinValue) (e : Pair) → n ≤ i → i < length xs → Moved (get_or xs i d) (get_or ms i e) (get_or ys i d)

pub none_moved : (xs : List JoinValue) (ms : List Pair) (n : ℕ) → length xs ≤ n → MovedFrom xs ms xs n
none_moved xs ms n few = record { long = refl; same = λ i d lt. refl; moved = λ i d e from lt. absurd (omega (arith, few, from, lt)) }

here_is : {X : Type 0} (xs : List X) (i : ℕ) (d e : X) → i < length xs → get_or xs i d ≡ get_or xs i e
here_is [] i d e lt = absurd (omega (arith, lt))
here_is (x ∷ xs) zero d e lt = refl
here_is (x ∷ xs) (suc i) d e lt = here_is xs i d e (omega (arith, lt))

there_or_above : (n i : ℕ) → n ≤ i → (i ≡ n) ⊎ (n + 1 ≤ i)
there_or_above zero zero le = inl refl
there_or_above zero (suc i) le = inr (omega arith)
there_or_above (suc n) zero le = absurd (omega (arith, le))
there_or_above (suc n) (suc i) le = elim (there_or_above n i (omega (arith, le))) as (λ _. (suc i ≡ suc n) ⊎ (suc n + 1 ≤ suc i)) [ inl e ↦ inl (ap suc e) | inr h ↦ inr (omega (arith, h)) ]

pub one_moved : (xs : List JoinValue) (ms : List Pair) (ys : List JoinValue) (n : ℕ) (old new : JoinValue) (m : Pair) → MovedFrom xs ms ys (n + 1) → n < length xs → n < length ms → old ≡ get_or ys n old → m ≡ get_or ms n m → Moved old m new → MovedFrom xs ms (set ys n new) n
one_moved xs ms ys n old new m was lt few at is one = record {
  long = length-set ys n new ∙ was.long;
  same = λ i d below. let ne : i ≢ n = omega (arith, below) in get_or-set_other ys n i new d ne ∙ was.same i d (omega (arith, below));
  moved = λ i d e from within. cases i d e from within (there_or_above n i from);
}
  where
    at_n : (d : JoinValue) (e : Pair) → Moved (get_or xs n d) (get_or ms n e) (get_or (set ys n new) n d)
    at_n d e =
        let here : n < length ys = omega (arith, was.long, lt) in
        let first : old ≡ get_or xs n d = at ∙ here_is ys n old d here ∙ was.same n d (omega arith) in
        let second : m ≡ get_or ms n e = is ∙ here_is ms n m e few in
        subst (λ (a : JoinValue). Moved a (get_or ms n e) (get_or (set ys n new) n d)) first
        (subst (λ (p : Pair). Moved old p (get_or (set ys n new) n d)) second
        (subst (λ (b : JoinValue). Moved old m b) (sym (get_or-set_same ys n new d here)) one))

    cases : (i : ℕ) (d : JoinValue) (e : Pair) → n ≤ i → i < length xs → (i ≡ n) ⊎ (n + 1 ≤ i) → Moved (get_or xs i d) (get_or ms i e) (get_or (set ys n new) i d)
    cases i d e from within (inl same) = subst (λ (k : ℕ). Moved (get_or xs k d) (get_or ms k e) (get_or (set ys n new) k d)) (sym same) (at_n d e)
    cases i d e from within (inr above) =
        let ne : i ≢ n = omega (arith, above) in
        subst (λ (b : JoinValue). Moved (get_or xs i d) (get_or ms i e) b) (sym (get_or-set_other ys n i new d ne)) (was.moved i d e above within)

pub all_moved : (xs : List JoinValue) (ms : List Pair) (ys : List JoinValue) → length ms ≡ length xs → MovedFrom xs ms ys 0 → AllMoved xs ms ys
all_moved [] [] [] long was = tt
all_moved [] [] (y ∷ ys) long was = absurd (omega (arith, was.long))
all_moved [] (m ∷ ms) ys long was = absurd (omega (arith, long))
all_moved (x ∷ xs) [] ys long was = absurd (omega (arith, long))
all_moved (x ∷ xs) (m ∷ ms) [] long was = absurd (omega (arith, was.long))
all_moved (x ∷ xs) (m ∷ ms) (y ∷ ys) long was = (
  was.moved 0 x m (omega arith) (omega arith),
  all_moved xs ms ys (omega (arith, long)) (record {
    long = omega (arith, was.long);
    same = λ i d lt. absurd (omega (arith, lt));
    moved = λ i d e from lt. was.moved (suc i) d e (omega arith) (omega (arith, lt));
  }),
)

-- ---- the element behind a front
pub behind_is : {X : Type 0} (front rest all : List X) (x : X) → (front ++ x ∷ []) ++ rest ≡ all → x ≡ get_or all (length front) x
behind_is {X = X} front rest all x e = sym (at_front front) ∙ ap (λ l. get_or l (length front) x) e
  where
    at_front : (front : List X) → get_or ((front ++ x ∷ []) ++ rest) (length front) x ≡ x
    at_front [] = refl
    at_front (y ∷ front) = at_front front

pub front_within : {X : Type 0} (front rest all : List X) (x : X) → (front ++ x ∷ []) ++ rest ≡ all → length front < length all
front_within front rest all x e = omega (arith, ap length e, length-append (front ++ x ∷ []) rest, length_push front x)

pub same_long : (xs : List JoinValue) (ms : List Pair) → map (λ (j : JoinValue). j.waiting) xs ≡ map Some ms → length xs ≡ length ms
same_long xs ms same = sym (length-map xs (λ (j : JoinValue). j.waiting)) ∙ ap length same ∙ length-map ms Some

-- the first ones, one more
pub one_more : {X : Type 0} (xs : List X) (n : ℕ) (x : X) → n < length xs → x ≡ get_or xs n x → take (n + 1) xs ≡ take n xs ++ x ∷ []
one_more xs n x lt is = take_more xs n x lt ∙ ap (λ y. take n xs ++ y ∷ []) (sym is)

-- what waits in the first ones, one more
pub waits_more : (xs : List JoinValue) (ms : List Pair) (n : ℕ) (new : JoinValue) (m : Pair) → n < length xs → n < length ms → m ≡ get_or ms n m → new.waiting ≡ Some m
    → map (λ (j : JoinValue). j.waiting) (take n xs) ≡ map Some (take n ms) → map (λ (j : JoinValue). j.waiting) (take (n + 1) (set xs n new)) ≡ map Some (take (n + 1) ms)
waits_more xs ms n new m lt few is waits same =
    ap (map (λ (j : JoinValue). j.waiting)) (take_more_set xs n new lt)
    ∙ map-append (λ (j : JoinValue). j.waiting) (take n xs) (new ∷ [])
    ∙ ap (λ l. map (λ (j : JoinValue). j.waiting) (take n xs) ++ l ∷ []) waits
    ∙ ap (λ l. l ++ Some m ∷ []) same
    ∙ sym (map-append Some (take n ms) (m ∷ []))
    ∙ ap (map Some) (sym (one_more ms n m few is))

-- what a list puts back that is written whole
pub written : {X : Type 0} (n : ℕ) (new old : List X) → length new ≡ n → take n (new ++ drop (length new) old) ≡ new
written n new old e = take_at new (drop (length new) old) n e
