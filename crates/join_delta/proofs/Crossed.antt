-- The pairs of moves of both sides, in whatever order they are found.
use Rattle.std.proofs.Common.{◌≡◌, ℕ, zero, suc, ◌+◌, ◌<◌, List, [], ◌∷◌, ◌++◌, Bool, true, false, cond, nat_eq, filter, fold, map, length, take, get_or, refl, sym, ap, ◌∙◌, arith, append_assoc, append-nil}
use Rattle.std.specs.List.{flat_map}
use Rattle.std.proofs.lemmas.Bool.{eq-eqb}
use denote.Ref.{Bor}
use Rattle.ss_text.specs.declared.seed.Seed.{Seed}
use Rattle.std.proofs.lemmas.List.{take_more, length-map}
use Rattle.std.proofs.lemmas.List.Sums.{fold_more}
use Rattle.row_links.specs.Parts.{cells_at}
use Rattle.row_links.specs.Marks.{mark_of}
use Rattle.row_links.proofs.Finding.{cells_sym, same_mark}
use Rattle.operator_law.specs.Bags.{weigh}
use Rattle.operator_law.specs.declared.delta.Signed.{Signed}
use Rattle.operator_law.proofs.Weights.{weigh-map, weigh-filter, weigh-flat_map, weigh-same}
use Rattle.join_delta.specs.Joined.{matches, signs, with_moves}
use Rattle.join_delta.specs.Partners.{crossed, is_beside, crossed_with}
use Rattle.join_delta.specs.Groups.{of_mark, moves_now}
use Rattle.join_delta.proofs.Bilinear.{weigh-swap}

-- ---- those that pass, mapped, of one more element
pub filter_append : {X : Type 0} (p : X → Bool) (xs ys : List X) → filter p (xs ++ ys) ≡ filter p xs ++ filter p ys
filter_append p [] ys = refl
filter_append p (x ∷ xs) ys = elim (p x) as (λ b. cond b (x ∷ filter p (xs ++ ys)) (filter p (xs ++ ys)) ≡ cond b (x ∷ filter p xs) (filter p xs) ++ filter p ys) [
  | true ↦ ap (λ zs. x ∷ zs) (filter_append p xs ys)
  | false ↦ filter_append p xs ys
]

map_append : {X Y : Type 0} (f : X → Y) (xs ys : List X) → map f (xs ++ ys) ≡ map f xs ++ map f ys
map_append f [] ys = refl
map_append f (x ∷ xs) ys = ap (λ zs. f x ∷ zs) (map_append f xs ys)

pub kept_more : {X Y : Type 0} (f : X → Y) (p : X → Bool) (xs : List X) (i : ℕ) (x : X) (first now out : List Y) → i < length xs → x ≡ get_or xs i x
    → now ≡ first ++ map f (filter p (take i xs)) → out ≡ now ++ map f (filter p (x ∷ [])) → out ≡ first ++ map f (filter p (take (i + 1) xs))
kept_more f p xs i x first now out lt at was is =
    is
    ∙ ap (λ ys. ys ++ map f (filter p (x ∷ []))) was
    ∙ append_assoc first (map f (filter p (take i xs))) (map f (filter p (x ∷ [])))
    ∙ ap (λ ys. first ++ ys) (
    sym (map_append f (filter p (take i xs)) (filter p (x ∷ [])))
    ∙ ap (map f) (sym (filter_append p (take i xs) (x ∷ [])) ∙ ap (filter p) (ap (λ y. take i xs ++ y ∷ []) at ∙ sym (take_more xs i x lt)))
    )

-- ---- groups
pub fold_mapped : {X Y Z : Type 0} (f : Z → Y → Z) (g : X → Y) (a : Z) (xs : List X) → fold f a (map g xs) ≡ fold (λ z x. f z (g x)) a xs
fold_mapped f g a [] = refl
fold_mapped f g a (x ∷ xs) = fold_mapped f g (f a (g x)) xs

-- one more cell of a key
pub folded_more : {X Y Z : Type 0} (f : Z → Y → Z) (g : X → Y) (a : Z) (xs : List X) (i : ℕ) (d : X) (was now : Z) → i < length xs → was ≡ fold f a (map g (take i xs)) → now ≡ f was (g (get_or xs i d)) → now ≡ fold f a (map g (take (i + 1) xs))
folded_more f g a xs i d was now lt h e =
    e
    ∙ ap (λ z. f z (g (get_or xs i d))) (h ∙ fold_mapped f g a (take i xs))
    ∙ sym (fold_more (λ z x. f z (g x)) a xs i d lt)
    ∙ sym (fold_mapped f g a (take (i + 1) xs))

filter_within : {X : Type 0} (p q : X → Bool) (xs : List X) → ((x : X) → p x ≡ true → q x ≡ true) → filter p (filter q xs) ≡ filter p xs
filter_within p q [] h = refl
filter_within p q (x ∷ xs) h = by (p x) (q x) refl refl (filter_within p q xs h)
  where
    by : (a b : Bool) → p x ≡ a → q x ≡ b → filter p (filter q xs) ≡ filter p xs → filter p (filter q (x ∷ xs)) ≡ filter p (x ∷ xs)
    by a true e f rest = ap (λ (b : Bool). filter p (cond b (x ∷ filter q xs) (filter q xs))) f ∙ ap (λ ys. cond (p x) (x ∷ ys) ys) rest
    by true false e f rest = cc (h x e)
    by false false e f rest = ap (λ (b : Bool). filter p (cond b (x ∷ filter q xs) (filter q xs))) f ∙ rest ∙ sym (ap (λ (b : Bool). cond b (x ∷ filter p xs) (filter p xs)) e)

-- the group of a move's number has all moves that have its cells
pub grouped : (seed : Seed) (other_first : Bool) (other_key key : List ℕ) (ns group : List Signed) (m : Signed) (number : ℕ) → number ≡ mark_of seed (cells_at key m.row) → group ≡ filter (of_mark seed other_key number) ns
    → crossed_with other_first other_key key group m ≡ crossed_with other_first other_key key ns m
grouped seed other_first other_key key ns group m number is all =
    ap with_all all ∙ ap (map (crossed other_first m)) (filter_within (is_beside other_key key m) (of_mark seed other_key number) ns same_number)
  where
    with_all : List Signed → List Signed
    with_all ms = crossed_with other_first other_key key ms m

    same_number : (n : Signed) → is_beside other_key key m n ≡ true → of_mark seed other_key number n ≡ true
    same_number n e = eq-eqb (mark_of seed (cells_at other_key n.row)) number (same_mark seed (cells_at other_key n.row) (cells_at key m.row) e ∙ sym is)

-- one more move stands in its group
pub groups_more : (seed : Seed) (key : List ℕ) (ms : List Signed) (i : ℕ) (m : Signed) (number : ℕ) (k : ℕ) (was now : List Signed) → i < length ms → m ≡ get_or ms i m → number ≡ mark_of seed (cells_at key m.row)
    → was ≡ filter (of_mark seed key k) (take i ms) → now ≡ cond (nat_eq number k) (was ++ m ∷ []) was → now ≡ filter (of_mark seed key k) (take (i + 1) ms)
groups_more seed key ms i m number k was now lt at is h e =
    e
    ∙ ap (λ (n : ℕ). cond (nat_eq n k) (was ++ m ∷ []) was) is
    ∙ one (of_mark seed key k m)
    ∙ ap (λ ns. ns ++ filter (of_mark seed key k) (m ∷ [])) h
    ∙ sym (filter_append (of_mark seed key k) (take i ms) (m ∷ []))
    ∙ ap (filter (of_mark seed key k)) (ap (λ (n : Signed). take i ms ++ n ∷ []) at ∙ sym (take_more ms i m lt))
  where
    one : (b : Bool) → cond b (was ++ m ∷ []) was ≡ was ++ cond b (m ∷ []) []
    one true = refl
    one false = sym (append-nil was)

-- one more move of a group
pub kept_more_now : {Y : Type 0} (f : Signed → Y) (p : Signed → Bool) (ms : List (Bor Signed)) (i : ℕ) (m : Bor Signed) (first now out : List Y) → i < length ms → m ≡ get_or ms i m
    → now ≡ first ++ map f (filter p (take i (moves_now ms))) → out ≡ now ++ map f (filter p (m.now ∷ [])) → out ≡ first ++ map f (filter p (take (i + 1) (moves_now ms)))
kept_more_now f p ms i m first now out lt at was is =
    kept_more f p (moves_now ms) i m.now first now out (omega (arith, length-map ms (λ (m : Bor Signed). m.now))) (ap (λ (n : Bor Signed). n.now) at ∙ got ms i m lt) was is
  where
    got : (ns : List (Bor Signed)) (j : ℕ) (d : Bor Signed) → j < length ns → (get_or ns j d).now ≡ get_or (moves_now ns) j d.now
    got [] j d l = absurd (omega arith)
    got (n ∷ ns) zero d l = refl
    got (n ∷ ns) (suc j) d l = got ns j d (omega arith)

-- ---- both orders have the same pairs
pub in_order : (left right : List ℕ) (ms ns : List Signed) → flat_map (crossed_with false right left ns) ms ≡ flat_map (with_moves (matches left right) ns) ms
in_order left right ms ns = refl

signs_swap : (a b : Bool) → signs a b ≡ signs b a
signs_swap true true = refl
signs_swap true false = refl
signs_swap false true = refl
signs_swap false false = refl

pub other_order : (left right : List ℕ) (ms ns : List Signed) (f : Signed → ℕ) → weigh f (flat_map (crossed_with true left right ms) ns) ≡ weigh f (flat_map (with_moves (matches left right) ns) ms)
other_order left right ms ns f =
    weigh-flat_map f (crossed_with true left right ms) ns
    ∙ weigh-same _ _ (λ n. weigh-map f (crossed true n) (filter (is_beside left right n) ms) ∙ weigh-filter (λ m. f (crossed true n m)) (is_beside left right n) ms) ns
    ∙ weigh-swap (λ (n m : Signed). cond (is_beside left right n m) (f (crossed true n m)) 0) ns ms
    ∙ weigh-same _ _ (λ m.
    weigh-same _ _ (λ n. same m n) ns
    ∙ sym (weigh-map f (λ n. record { row = m.row ++ n.row; up = signs m.up n.up }) (filter (λ n. matches left right m.row n.row) ns)
    ∙ weigh-filter (λ n. f (record { row = m.row ++ n.row; up = signs m.up n.up })) (λ n. matches left right m.row n.row) ns)) ms
    ∙ sym (weigh-flat_map f (with_moves (matches left right) ns) ms)
  where
    same : (m n : Signed) → cond (is_beside left right n m) (f (crossed true n m)) 0 ≡ cond (matches left right m.row n.row) (f (record { row = m.row ++ n.row; up = signs m.up n.up })) 0
    same m n =
        ap (λ (b : Bool). cond b (f (crossed true n m)) 0) (cells_sym (cells_at left m.row) (cells_at right n.row))
        ∙ ap (λ (b : Bool). cond (matches left right m.row n.row) (f (record { row = m.row ++ n.row; up = b })) 0) (signs_swap n.up m.up)
