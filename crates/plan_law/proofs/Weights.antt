-- Sums over lists.
use Rattle.std.proofs.Common.{◌≡◌, ℕ, ◌+◌, suc, List, ◌∷◌, [], ◌++◌, length, Bool, true, false, cond, filter, map, refl, arith, ap, ◌∙◌, Option, Some, None}
use Rattle.std.specs.List.{filter_map, cons_option, range_with_len, slice_get}
use Rattle.std.specs.Prelude.{option_to_list}
use Rattle.ss_text.specs.Texts.{Row}
use Rattle.operator_law.specs.Bags.{weigh}
use Rattle.operator_law.proofs.Weights.{weigh-same, weigh-map, weigh-filter, weigh-flat_map}
use Rattle.join_delta.specs.Joined.{PairTest, joined}

pub weigh-zero : {X : Type 0} (f : X → ℕ) (none : (x : X) → f x ≡ 0) (xs : List X) → weigh f xs ≡ 0
weigh-zero f none [] = refl
weigh-zero f none (x ∷ xs) = omega (arith, none x, weigh-zero f none xs)

-- what a value weighs that may be there
pub weigh-filter_map : {X Y : Type 0} (f : Y → ℕ) (h : X → Option Y) (xs : List X) → weigh f (filter_map h xs) ≡ weigh (λ x. weigh f (option_to_list (h x))) xs
weigh-filter_map f h [] = refl
weigh-filter_map {X} {Y} f h (x ∷ xs) = one (h x) (weigh-filter_map f h xs)
  where
    one : (o : Option Y) → weigh f (filter_map h xs) ≡ weigh (λ x. weigh f (option_to_list (h x))) xs → weigh f (cons_option o (filter_map h xs)) ≡ weigh f (option_to_list o) + weigh (λ x. weigh f (option_to_list (h x))) xs
    one None e = omega (arith, e)
    one (Some y) e = omega (arith, e)

-- a test in front
pub cond-none : (b : Bool) → ◌≡◌ {A = ℕ} (cond b 0 0) 0
cond-none = elim [ true ↦ refl | false ↦ refl ]

pub weigh-cond : {X : Type 0} (b : Bool) (f : X → ℕ) (xs : List X) → weigh (λ x. cond b (f x) 0) xs ≡ cond b (weigh f xs) 0
weigh-cond b f xs = elim b as (λ b. weigh (λ x. cond b (f x) 0) xs ≡ cond b (weigh f xs) 0) [ true ↦ refl | false ↦ weigh-zero (λ x. 0) (λ x. refl) xs ]

-- two tests, in either order
pub swap_tests : (a b : Bool) (n : ℕ) → cond a (cond b n 0) 0 ≡ cond b (cond a n 0) 0
swap_tests true true n = refl
swap_tests true false n = refl
swap_tests false true n = refl
swap_tests false false n = refl

-- the numbers of places, each with the element there
pub weigh-places : {X : Type 0} (f : ℕ → ℕ) (g : X → ℕ) (s : ℕ) (xs : List X) → ((i : ℕ) (x : X) → slice_get xs i ≡ Some x → f (s + i) ≡ g x) → weigh f (range_with_len s (length xs)) ≡ weigh g xs
weigh-places f g s [] h = refl
weigh-places f g s (x ∷ xs) h =
    omega (
      arith,
      h 0 x refl,
      weigh-places f g (s + 1) xs (λ i y e. rw (plus_one s i) (h (suc i) y e)),
      ap f (plus_zero s),
    )
  where
    plus_one : (s i : ℕ) → (s + 1) + i ≡ s + suc i
    plus_one s i = omega arith

    plus_zero : (s : ℕ) → s + 0 ≡ s
    plus_zero s = omega arith

-- what the pairs of a join weigh
pub weigh-joined : (t : PairTest) (f : Row → ℕ) (xs ys : List Row) → weigh f (joined t xs ys) ≡ weigh (λ x. weigh (λ y. cond (t x y) (f (x ++ y)) 0) ys) xs
weigh-joined t f xs ys =
    weigh-flat_map f (λ x. map (λ y. x ++ y) (filter (t x) ys)) xs
    ∙ weigh-same _ _ (λ x. weigh-map f (λ y. x ++ y) (filter (t x) ys) ∙ weigh-filter (λ y. f (x ++ y)) (t x) ys) xs
