-- Marked combinations, stage by stage.
use Rattle.std.proofs.Common.{◌≡◌, ℕ, ◌+◌, ◌*◌, ◌≤◌, List, ◌++◌, Bool, true, false, ◌||◌, not, cond, filter, map, refl, arith, sym, ◌∙◌}
use Rattle.plan_law.specs.Touched.{Marked, marked_pairs, count_marked}
use Rattle.operator_law.specs.Bags.{weigh}
use Rattle.operator_law.proofs.Weights.{weigh-same, weigh-filter, weigh-map, weigh-flat_map, weigh-plus}
use Rattle.plan_law.proofs.Weights.{weigh-zero, swap_tests}

-- how many pairs pass the test, of those on the left and those on the right that are picked by their marks
abbrev pub pairs : {A : Type 0} → (List A → List A → Bool) → (Bool → Bool) → (Bool → Bool) → List (Marked A) → List (Marked A) → ℕ
pairs {A} t p r xs ys = weigh (λ (x : Marked A). cond (p x.1) (weigh (λ (y : Marked A). cond (r y.1) (cond (t x.0 y.0) 1 0) 0) ys) 0) xs

abbrev pub marked : Bool → Bool
marked b = b

abbrev pub plain : Bool → Bool
plain b = not b

abbrev pub any : Bool → Bool
any b = true

-- the cells of those that are picked
abbrev pub cells_of : {A : Type 0} → (Bool → Bool) → List (Marked A) → List (List A)
cells_of {A} p xs = map (λ (x : Marked A). x.0) (filter (λ (x : Marked A). p x.1) xs)

pub weigh-cells : {A : Type 0} (p : Bool → Bool) (f : List A → ℕ) (xs : List (Marked A)) → weigh f (cells_of p xs) ≡ weigh (λ (x : Marked A). cond (p x.1) (f x.0) 0) xs
weigh-cells {A} p f xs = weigh-map f (λ (x : Marked A). x.0) (filter (λ (x : Marked A). p x.1) xs) ∙ weigh-filter _ (λ (x : Marked A). p x.1) xs

-- the marked and the plain are all
pub weigh-parts : {A : Type 0} (f : List A → ℕ) (xs : List (Marked A)) → weigh f (cells_of any xs) ≡ weigh f (cells_of plain xs) + weigh f (cells_of marked xs)
weigh-parts {A} f xs =
    omega (
      arith,
      weigh-cells any f xs,
      weigh-cells plain f xs,
      weigh-cells marked f xs,
      weigh-plus (λ (x : Marked A). cond (not x.1) (f x.0) 0) (λ (x : Marked A). cond x.1 (f x.0) 0) xs,
      weigh-same _ _ (λ (x : Marked A). split x.1 (f x.0)) xs,
    )
  where
    split : (b : Bool) (n : ℕ) → n ≡ cond (not b) n 0 + cond b n 0
    split true n = omega arith
    split false n = omega arith

module _ {A : Type 0} (t : List A → List A → Bool) where
  -- what all pairs weigh, by their cells and marks
  pub weigh-pairs : (f : Marked A → ℕ) (xs ys : List (Marked A)) → weigh f (marked_pairs t xs ys) ≡ weigh (λ (x : Marked A). weigh (λ (y : Marked A). cond (t x.0 y.0) (f (x.0 ++ y.0, x.1 || y.1)) 0) ys) xs
  weigh-pairs f xs ys =
      weigh-flat_map f (λ (x : Marked A). map (λ (y : Marked A). (x.0 ++ y.0, x.1 || y.1)) (filter (λ (y : Marked A). t x.0 y.0) ys)) xs
      ∙ weigh-same _ _ (λ (x : Marked A).
      weigh-map f (λ (y : Marked A). (x.0 ++ y.0, x.1 || y.1)) (filter (λ (y : Marked A). t x.0 y.0) ys)
      ∙ weigh-filter _ (λ (y : Marked A). t x.0 y.0) ys) xs

  -- what holds a marked row extends what does, or extends another by a marked row
  pub marked_extend : (xs ys : List (Marked A)) → count_marked (marked_pairs t xs ys) ≡ pairs t marked any xs ys + pairs t plain marked xs ys
  marked_extend xs ys = weigh-pairs _ xs ys ∙ weigh-same _ _ (λ (x : Marked A). one x x.1) xs ∙ weigh-plus _ _ xs
    where
      one : (x : Marked A) (b : Bool) → weigh (λ (y : Marked A). cond (t x.0 y.0) (cond (b || y.1) 1 0) 0) ys
          ≡ cond b (weigh (λ (y : Marked A). cond true (cond (t x.0 y.0) 1 0) 0) ys) 0 + cond (not b) (weigh (λ (y : Marked A). cond y.1 (cond (t x.0 y.0) 1 0) 0) ys) 0
      one x true = omega arith
      one x false = omega (arith, weigh-same _ _ (λ (y : Marked A). swap_tests (t x.0 y.0) y.1 1) ys)

  -- any are the marked and the plain
  any_right : (p : Bool → Bool) (xs ys : List (Marked A)) → pairs t p any xs ys ≡ pairs t p marked xs ys + pairs t p plain xs ys
  any_right p xs ys = weigh-same _ _ (λ (x : Marked A). one x (p x.1)) xs ∙ weigh-plus _ _ xs
    where
      split : (b : Bool) (n : ℕ) → n ≡ cond b n 0 + cond (not b) n 0
      split true n = omega arith
      split false n = omega arith

      one : (x : Marked A) (b : Bool) → cond b (weigh (λ (y : Marked A). cond true (cond (t x.0 y.0) 1 0) 0) ys) 0
          ≡ cond b (weigh (λ (y : Marked A). cond y.1 (cond (t x.0 y.0) 1 0) 0) ys) 0 + cond b (weigh (λ (y : Marked A). cond (not y.1) (cond (t x.0 y.0) 1 0) 0) ys) 0
      one x true = weigh-same _ _ (λ (y : Marked A). split y.1 (cond (t x.0 y.0) 1 0)) ys ∙ weigh-plus _ _ ys
      one x false = refl

  any_left : (r : Bool → Bool) (xs ys : List (Marked A)) → pairs t any r xs ys ≡ pairs t marked r xs ys + pairs t plain r xs ys
  any_left r xs ys = weigh-same _ _ (λ (x : Marked A). split x.1 (weigh (λ (y : Marked A). cond (r y.1) (cond (t x.0 y.0) 1 0) 0) ys)) xs ∙ weigh-plus _ _ xs
    where
      split : (b : Bool) (n : ℕ) → n ≡ cond b n 0 + cond (not b) n 0
      split true n = omega arith
      split false n = omega arith

  -- with the plain rows of the other side, each pair of a marked row is one marked member
  pub plain_counted : (xs ys : List (Marked A)) → pairs t marked plain xs ys + pairs t plain marked xs ys ≤ count_marked (marked_pairs t xs ys)
  plain_counted xs ys = omega (arith, marked_extend xs ys, any_right marked xs ys)

  -- with all rows of the other side, each marked member is counted at most twice
  pub any_counted : (xs ys : List (Marked A)) → pairs t marked any xs ys + pairs t any marked xs ys ≤ 2 * count_marked (marked_pairs t xs ys)
  any_counted xs ys = omega (arith, marked_extend xs ys, any_right marked xs ys, any_left marked xs ys)

  -- the pairs of picked cells, and what they weigh
  abbrev of_picked : (Bool → Bool) → (List A → ℕ) → List (Marked A) → List (Marked A) → ℕ
  of_picked p f xs ys = weigh (λ x. weigh (λ y. cond (t x y) (f (x ++ y)) 0) (cells_of p ys)) (cells_of p xs)

  pub weigh-plain : (f : List A → ℕ) (xs ys : List (Marked A)) → weigh f (cells_of plain (marked_pairs t xs ys)) ≡ of_picked plain f xs ys
  weigh-plain f xs ys =
      weigh-cells plain f (marked_pairs t xs ys)
      ∙ weigh-pairs _ xs ys
      ∙ weigh-same _ _ (λ (x : Marked A). one x x.1) xs
      ∙ sym (weigh-cells plain _ xs)
    where
      none : (b : Bool) → ◌≡◌ {A = ℕ} (cond b 0 0) 0
      none true = refl
      none false = refl

      one : (x : Marked A) (b : Bool) → weigh (λ (y : Marked A). cond (t x.0 y.0) (cond (not (b || y.1)) (f (x.0 ++ y.0)) 0) 0) ys
          ≡ cond (not b) (weigh (λ y. cond (t x.0 y) (f (x.0 ++ y)) 0) (cells_of plain ys)) 0
      one x true = weigh-zero _ (λ (y : Marked A). none (t x.0 y.0)) ys
      one x false =
          weigh-same _ _ (λ (y : Marked A). swap_tests (t x.0 y.0) (not y.1) (f (x.0 ++ y.0))) ys
          ∙ sym (weigh-cells plain (λ y. cond (t x.0 y) (f (x.0 ++ y)) 0) ys)

  pub weigh-any : (f : List A → ℕ) (xs ys : List (Marked A)) → weigh f (cells_of any (marked_pairs t xs ys)) ≡ of_picked any f xs ys
  weigh-any f xs ys =
      weigh-cells any f (marked_pairs t xs ys)
      ∙ weigh-pairs (λ (x : Marked A). f x.0) xs ys
      ∙ sym (weigh-cells any _ xs ∙ weigh-same _ _ (λ (x : Marked A). weigh-cells any (λ y. cond (t x.0 y) (f (x.0 ++ y)) 0) ys) xs)

  -- how many pairs there are, by their cells
  pub pairs_cells : (p r : Bool → Bool) (xs ys : List (Marked A)) → weigh (λ x. weigh (λ y. cond (t x y) 1 0) (cells_of r ys)) (cells_of p xs) ≡ pairs t p r xs ys
  pairs_cells p r xs ys =
      weigh-cells p _ xs
      ∙ weigh-same _ _ (λ (x : Marked A). ap_cond (p x.1) (weigh-cells r (λ y. cond (t x.0 y) 1 0) ys)) xs
    where
      ap_cond : (b : Bool) {m n : ℕ} → m ≡ n → cond b m 0 ≡ cond b n 0
      ap_cond true e = e
      ap_cond false e = refl
