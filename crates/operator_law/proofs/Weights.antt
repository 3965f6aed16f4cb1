-- What lists weigh.
use Rattle.std.proofs.Common.{◌≡◌, ℕ, ◌+◌, ◌<◌, List, [], ◌∷◌, ◌++◌, Bool, true, false, cond, refl, arith, sym, map, filter, get_or, length}
use Rattle.std.specs.List.{sum_by, remove, flat_map, AllByRecursion, list_any, position_or_len}
use Rattle.std.proofs.lemmas.List.Recursion.{is_sum_by}
use Rattle.std.proofs.lemmas.List.Sums.{sum_by-remove}
use Rattle.operator_law.specs.Bags.{weigh}

pub weigh-append : {X : Type 0} (f : X → ℕ) (xs ys : List X) → weigh f (xs ++ ys) ≡ weigh f xs + weigh f ys
weigh-append f [] ys = omega arith
weigh-append f (x ∷ xs) ys = omega (arith, weigh-append f xs ys)

pub weigh-push : {X : Type 0} (f : X → ℕ) (xs : List X) (y : X) → weigh f (xs ++ y ∷ []) ≡ weigh f xs + f y
weigh-push f xs y = omega (arith, weigh-append f xs (y ∷ []))

pub weigh-map : {X Y : Type 0} (f : Y → ℕ) (g : X → Y) (xs : List X) → weigh f (map g xs) ≡ weigh (λ x. f (g x)) xs
weigh-map f g [] = refl
weigh-map f g (x ∷ xs) = omega (arith, weigh-map f g xs)

-- a filter weighs what passes
pub weigh-filter : {X : Type 0} (f : X → ℕ) (p : X → Bool) (xs : List X) → weigh f (filter p xs) ≡ weigh (λ x. cond (p x) (f x) 0) xs
weigh-filter f p [] = refl
weigh-filter f p (x ∷ xs) =
    elim (p x) as (λ b. weigh f (cond b (x ∷ filter p xs) (filter p xs)) ≡ cond b (f x) 0 + weigh (λ x. cond (p x) (f x) 0) xs) [
      | true ↦ omega (arith, weigh-filter f p xs)
      | false ↦ omega (arith, weigh-filter f p xs)
    ]

pub weigh-flat_map : {X Y : Type 0} (f : Y → ℕ) (g : X → List Y) (xs : List X) → weigh f (flat_map g xs) ≡ weigh (λ x. weigh f (g x)) xs
weigh-flat_map f g [] = refl
weigh-flat_map f g (x ∷ xs) = omega (arith, weigh-flat_map f g xs, weigh-append f (g x) (flat_map g xs))

-- weights that are equal at each element weigh the same, also where they are equal at just the elements of a kind
pub weigh-same : {X : Type 0} (f g : X → ℕ) (same : (x : X) → f x ≡ g x) (xs : List X) → weigh f xs ≡ weigh g xs
weigh-same f g same [] = refl
weigh-same f g same (x ∷ xs) = omega (arith, same x, weigh-same f g same xs)

pub weigh-same_where : {X : Type 0} (P : X → Type 0) (f g : X → ℕ) (same : (x : X) → P x → f x ≡ g x) (xs : List X) → AllByRecursion P xs → weigh f xs ≡ weigh g xs
weigh-same_where P f g same [] all = refl
weigh-same_where P f g same (x ∷ xs) all = omega (arith, same x all.0, weigh-same_where P f g same xs all.1)

pub weigh-plus : {X : Type 0} (f g : X → ℕ) (xs : List X) → weigh (λ x. f x + g x) xs ≡ weigh f xs + weigh g xs
weigh-plus f g [] = refl
weigh-plus f g (x ∷ xs) = omega (arith, weigh-plus f g xs)

pub weigh-none : {X : Type 0} (xs : List X) → weigh (λ (x : X). 0) xs ≡ 0
weigh-none [] = refl
weigh-none (x ∷ xs) = omega (arith, weigh-none xs)

pub weigh-swap : {X Y : Type 0} (F : X → Y → ℕ) (xs : List X) (ys : List Y) → weigh (λ x. weigh (F x) ys) xs ≡ weigh (λ y. weigh (λ x. F x y) xs) ys
weigh-swap F [] ys = sym (weigh-none ys)
weigh-swap F (x ∷ xs) ys = omega (arith, weigh-swap F xs ys, weigh-plus (F x) (λ y. weigh (λ x. F x y) xs) ys)

-- the library's word for the same sum
pub weigh-sum_by : {X : Type 0} (f : X → ℕ) (xs : List X) → weigh f xs ≡ sum_by f xs
weigh-sum_by f xs = is_sum_by (weigh f) f refl (λ x xs. refl) xs

pub weigh-remove : {X : Type 0} (f : X → ℕ) (xs : List X) (i : ℕ) (d : X) → i < length xs → weigh f (remove xs i) + f (get_or xs i d) ≡ weigh f xs
weigh-remove f xs i d h = omega (arith, weigh-sum_by f (remove xs i), weigh-sum_by f xs, sum_by-remove f xs i d h)

-- the place of an element that passes
pub place_within : {A : Type 0} (p : A → Bool) (xs : List A) → list_any p xs ≡ true → position_or_len p xs < length xs
place_within p [] h = absurd (cc)
place_within p (x ∷ xs) h =
    elim (p x) as (λ b. p x ≡ b → position_or_len p (x ∷ xs) < length (x ∷ xs)) [
      | true ↦ λ e. rw e (omega arith)
      | false ↦ λ e. rw e (omega (arith, place_within p xs (rw e at h)))
    ] refl
