-- The places of the tests.
use Rattle.std.proofs.Common.{◌≡◌, ◌<◌, ℕ, zero, suc, List, [], ◌∷◌, All, length, arith, ap, sym, subst, slice_index_or}
use Rattle.std.proofs.lemmas.List.{length-map}
use Rattle.std.proofs.lemmas.List.Elements.{All-map}
use Rattle.operator_law.specs.Bags.{signed}
use Rattle.operator_law.specs.Rows.{cells_at, projected}
use Rattle.operator_law.specs.declared.delta.Signed.{Signed}

both_within : (k d : ℕ) → k < 2 → slice_index_or (1 ∷ 0 ∷ []) k d < 2
both_within zero d h = omega arith
both_within (suc zero) d h = omega arith
both_within (suc (suc k)) d h = absurd (omega (arith, h))

-- both places are in a row of two cells
pub two_within : (places : List ℕ) (n : ℕ) → places ≡ 1 ∷ 0 ∷ [] → n ≡ 2 → (k d : ℕ) → k < length places → slice_index_or places k d < n
two_within places n e two k d h =
    let below : slice_index_or places k d < 2 = subst (λ (ps : List ℕ). k < length ps → slice_index_or ps k d < 2) (sym e) (both_within k d) h in
    omega (arith, below, two)

-- and their cells are two
pub two_cells : (places : List ℕ) (ms ns : List Signed) → places ≡ 1 ∷ 0 ∷ [] → ns ≡ projected places ms → All (λ (m : Signed). (0 < length m.row) × (1 < length m.row)) ns
two_cells places ms ns e is =
    let two : length places ≡ 2 = ap length e in
    let wide : (m : Signed) → (0 < length (cells_at places m.row)) × (1 < length (cells_at places m.row)) =
    λ m.
    let all : length (cells_at places m.row) ≡ length places = length-map places (λ k. slice_index_or m.row k []) in
    (omega (arith, all, two), omega (arith, all, two)) in
    subst (λ (ms : List Signed). All (λ (m : Signed). (0 < length m.row) × (1 < length m.row)) ms) (sym is)
    (All-map (λ (m : Signed). (0 < length m.row) × (1 < length m.row)) (λ (m : Signed). signed m.up (cells_at places m.row)) ms (λ k d h. wide (slice_index_or ms k d)))
