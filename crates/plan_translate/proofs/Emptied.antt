-- Moves of sides of which the right ones are emptied, one after another.
use Rattle.std.proofs.Common.{◌≡◌, ◌<◌, ◌+◌, ℕ, zero, suc, List, [], ◌∷◌, length, map, get_or, set, refl, ap, ◌∙◌, arith}
use Rattle.plan_law.specs.Chain.{SideMoves}
use Rattle.plan_translate.specs.ChainStages.{side_moves}
use Rattle.plan_translate.specs.Read.{left_moves}
use Rattle.plan_translate.proofs.Each.{Pair}

abbrev pub left_of : Pair → Pair
left_of m = (m.0, [])

-- the first ones are emptied
abbrev pub emptied : ℕ → List Pair → List Pair
emptied zero ms = ms
emptied (suc n) [] = []
emptied (suc n) (m ∷ ms) = left_of m ∷ emptied n ms

pub emptied_long : (n : ℕ) (ms : List Pair) → length (emptied n ms) ≡ length ms
emptied_long zero ms = refl
emptied_long (suc n) [] = refl
emptied_long (suc n) (m ∷ ms) = ap suc (emptied_long n ms)

-- one more
emptied_suc : (n : ℕ) (ms : List Pair) (m : Pair) → n < length ms → m ≡ get_or (emptied n ms) n m → set (emptied n ms) n (left_of m) ≡ emptied (suc n) ms
emptied_suc n [] m lt at = absurd (omega (arith, lt))
emptied_suc zero (x ∷ ms) m lt at = ap (λ (y : Pair). left_of y ∷ ms) at
emptied_suc (suc n) (x ∷ ms) m lt at = ap (λ (l : List Pair). left_of x ∷ l) (emptied_suc n ms m (omega (arith, lt)) at)

pub emptied_more : (n : ℕ) (ms all : List Pair) (m : Pair) → n < length ms → all ≡ emptied n ms → m ≡ get_or all n m → set all n (left_of m) ≡ emptied (n + 1) ms
emptied_more n ms all m lt is at =
    let same : suc n ≡ n + 1 = omega arith in
    ap (λ (l : List Pair). set l n (left_of m)) is ∙ emptied_suc n ms m lt (at ∙ ap (λ (l : List Pair). get_or l n m) is) ∙ ap (λ (k : ℕ). emptied k ms) same

-- all of them
pub emptied_all : (ms : List Pair) → map side_moves (emptied (length ms) ms) ≡ map left_moves (map side_moves ms)
emptied_all [] = refl
emptied_all (m ∷ ms) = ap (λ (l : List SideMoves). left_moves (side_moves m) ∷ l) (emptied_all ms)
