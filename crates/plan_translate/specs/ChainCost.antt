-- What a walk costs, whether or not it comes to its end.
use Rattle.std.specs.Prelude.{ℕ, ◌+◌, ◌≤◌, List}
use Rattle.std.specs.List.{AllByRecursion}
use Rattle.operator_law.specs.declared.delta.Signed.{Signed}
use Rattle.schema_delta.specs.Net.{IsNet}
use Rattle.plan_law.specs.Chain.{Joint, Sides, SideMoves, Walks, AreNet, walk_pairs}

-- the steps are at most the pairs of a walk of these moves; no row moves both ways in it where none does in these
pub record CostsWalk (js : List Joint) (ks : List Sides) (first : List Signed) (further : List (List Signed)) (old new : ℕ) : Type 0 where
  pub moves : List SideMoves
  pub out : List Signed
  pub walks : Walks js ks first further moves out
  pub nets : IsNet first → AllByRecursion IsNet further → AreNet moves × IsNet out
  pub within : new ≤ old + walk_pairs js ks moves
