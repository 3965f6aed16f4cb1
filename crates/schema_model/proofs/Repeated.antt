-- The first number of a range that passes a test.
use Rattle.std.proofs.Common.{◌≡◌, ◌<◌, ◌≤◌, ◌+◌, ℕ, Some, None, refl, arith, ap, zero, suc, Bool, true, false, cond, find, ◌∙◌}
use Rattle.std.specs.List.{range_with_len}

pub found_first : (p : ℕ → Bool) (n a i : ℕ) → a ≤ i → i < a + n → ((k : ℕ) → a ≤ k → k < i → p k ≡ false) → p i ≡ true → find p (range_with_len a n) ≡ Some i
found_first p zero a i from to before here = absurd (omega (arith, from, to))
found_first p (suc n) a i from to before here =
    elim (p a) as (λ b. p a ≡ b → cond b (Some a) (find p (range_with_len (a + 1) n)) ≡ Some i) [
      | true ↦ λ e. ap Some (same a i from (λ lt. let failed = before a (omega arith) lt in absurd (cc)))
      | false ↦ λ e. found_first p n (a + 1) i (next a i from (λ is. let yes : p a ≡ true = ap p is ∙ here in absurd (cc))) (omega (arith, to)) (λ k h lt. before k (omega (arith, h)) lt) here
    ] refl
  where
    same : (a i : ℕ) → a ≤ i → (a < i → ⊥) → a ≡ i
    same a i h later = grind arith

    next : (a i : ℕ) → a ≤ i → (a ≡ i → ⊥) → a + 1 ≤ i
    next a i h other = grind arith

pub found_none : (p : ℕ → Bool) (n a : ℕ) → ((k : ℕ) → a ≤ k → k < a + n → p k ≡ false) → find p (range_with_len a n) ≡ None
found_none p zero a none = refl
found_none p (suc n) a none = rw (none a (omega arith) (omega arith)) (found_none p n (a + 1) (λ k h lt. none k (omega (arith, h)) (omega (arith, lt))))
