-- What waits in a plan waits in each join.
use Rattle.std.proofs.Common.{◌≡◌, List, [], ◌∷◌, map, refl, ap, sym, ◌∙◌, Option, Some, None}
use Rattle.std.specs.Prelude.{option_map}
use Rattle.join_delta.specs.Joins.{JoinValue}
use Rattle.plan_law.specs.Chain.{SideMoves}
use Rattle.plan_translate.specs.ChainStages.{side_moves}
use Rattle.plan_translate.proofs.Each.{Pair}

abbrev pair_in : SideMoves → Pair
pair_in p = (p.left, p.right)

unseen : (ms : List Pair) → map pair_in (map side_moves ms) ≡ ms
unseen [] = refl
unseen (m ∷ ms) = ap (λ (l : List Pair). m ∷ l) (unseen ms)

pub moves_same : (ms ns : List Pair) → map side_moves ms ≡ map side_moves ns → ms ≡ ns
moves_same ms ns e = sym (unseen ms) ∙ ap (map pair_in) e ∙ unseen ns

abbrev Waits : List JoinValue → List Pair → Type 0
Waits joins ms = map (λ (j : JoinValue). j.waiting) joins ≡ map Some ms

pub waits_in_each : {X : Type 0} (see : X → List Pair) (joins : List JoinValue) (o : Option X) (ms : List Pair)
    → ((ns : List Pair) → option_map see o ≡ Some ns → Waits joins ns) → option_map (λ x. map side_moves (see x)) o ≡ Some (map side_moves ms) → Waits joins ms
waits_in_each see joins None ms ready is = absurd (cc is)
waits_in_each see joins (Some x) ms ready is = ready ms (ap (λ (l : List Pair). Some l) (moves_same (see x) ms (same is)))
  where
    same : Some (map side_moves (see x)) ≡ Some (map side_moves ms) → map side_moves (see x) ≡ map side_moves ms
    same e = cc
