-- The most that a product of bounds comes to, where some of them are large and the others small.
use Rattle.std.proofs.Common.{◌≡◌, ◌≤◌, ◌+◌, ◌*◌, ℕ, zero, suc, List, [], ◌∷◌, length, Bool, true, false, cond, refl, sym, ap, ◌∙◌, arith, subst}
use Rattle.std.specs.Prelude.{count_by, flat_map}
use Rattle.std.proofs.lemmas.List.{length-append}
use Rattle.std.proofs.lemmas.List.Sums.{sum_by-cons, count_by-le-length}
use Rattle.std.proofs.lemmas.Nat.{mul-le}
use Rattle.std.proofs.Math.Nat.{mul_comm, mul_assoc}

-- x, so many times times a
abbrev pub times : ℕ → ℕ → ℕ → ℕ
times a zero x = x
times a (suc n) x = a * times a n x

-- a list made of lists that have so many elements at most
pub flat_few : {X Y : Type 0} (f : X → List Y) (n : ℕ) (xs : List X) → ((x : X) → length (f x) ≤ n) → length (flat_map f xs) ≤ length xs * n
flat_few f n [] h = omega arith
flat_few f n (x ∷ xs) h =
    let rest = flat_few f n xs h in
    let here = h x in
    let both = length-append (f x) (flat_map f xs) in
    omega arith

module _ (many few : ℕ) where
  -- the bound of a thing of the large kind, or of the other
  abbrev pub bound : Bool → ℕ
  bound b = cond b many few

  abbrev pub product : {X : Type 0} → (X → Bool) → List X → ℕ
  product p [] = 1
  product p (x ∷ xs) = bound (p x) * product p xs

  -- so many large bounds and so many small ones
  abbrev pub most : ℕ → ℕ → ℕ
  most i j = times many i (times few j 1)

  swapped : (a b x : ℕ) → a * (b * x) ≡ b * (a * x)
  swapped a b x = sym (mul_assoc a b x) ∙ ap (λ n. n * x) (mul_comm a b) ∙ mul_assoc b a x

  inner : (i x : ℕ) → times many i (few * x) ≡ few * times many i x
  inner zero x = refl
  inner (suc i) x = ap (λ n. many * n) (inner i x) ∙ swapped many few (times many i x)

  some : (a n : ℕ) → 1 ≤ a → 1 ≤ n → 1 ≤ a * n
  some a n h k = mul-le 1 1 a n h k

  module _ (ordered : few ≤ many) (positive : 1 ≤ few) where
    one_few : (j : ℕ) → 1 ≤ times few j 1
    one_few zero = omega arith
    one_few (suc j) = some few (times few j 1) positive (one_few j)

    one_most : (i j : ℕ) → 1 ≤ most i j
    one_most zero j = one_few j
    one_most (suc i) j = some many (most i j) (omega arith) (one_most i j)

    one_more : (b : Bool) (n k l i j : ℕ) → k ≤ l → cond b 1 0 + k ≤ i → suc l ≤ i + j → ((i j : ℕ) → k ≤ i → l ≤ i + j → n ≤ most i j) → bound b * n ≤ most i j
    one_more true n k l zero j in_all large all rest = absurd (omega arith)
    one_more true n k l (suc i) j in_all large all rest = mul-le many n many (most i j) (omega arith) (rest i j (omega arith) (omega arith))
    one_more false n k l zero zero in_all large all rest = absurd (omega arith)
    one_more false n k l (suc i) zero in_all large all rest = mul-le few n many (most i zero) ordered (rest i zero (omega arith) (omega arith))
    one_more false n k l i (suc j) in_all large all rest = subst (λ m. few * n ≤ m) (sym (inner i (times few j 1))) (mul-le few n few (most i j) (omega arith) (rest i j (omega arith) (omega arith)))

    -- at most so many bounds, of which so many at most are large
    pub product_few : {X : Type 0} (p : X → Bool) (xs : List X) (i j : ℕ) → count_by p xs ≤ i → length xs ≤ i + j → product p xs ≤ most i j
    product_few p [] i j large all = one_most i j
    product_few p (x ∷ xs) i j large all =
        one_more (p x) (product p xs) (count_by p xs) (length xs) i j (count_by-le-length p xs) (subst (λ n. n ≤ i) (sum_by-cons (λ x. cond (p x) 1 0) x xs) large) all (product_few p xs)
