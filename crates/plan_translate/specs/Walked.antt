-- How a plan comes to its moves.
use Rattle.std.specs.Prelude.{◌≡◌, ◌+◌, ◌≤◌, ℕ, List, length}
use Rattle.schema_model.specs.Catalogue.{CatalogueValue}
use Rattle.view_def.specs.Query.{Query}
use Rattle.schema_delta.specs.Net.{SameNet, IsNet}
use Rattle.plan_law.specs.Chain.{Sides, SideMoves, Walks, AreNet, walk_pairs}
use Rattle.plan_law.specs.Laws.{IsWalk}
use Rattle.plan_law.specs.PlanRows.{plan_joints}
use Rattle.plan_law.specs.PlanMoves.{PlanKeeps, fact_moves}
use Rattle.operator_law.specs.declared.delta.Signed.{Signed}
use Rattle.plan_translate.specs.ChainCost.{CostsWalk}
use Rattle.plan_translate.specs.Read.{kept_moves}
use Rattle.plan_translate.specs.Plans.{PlanMoveValue}

-- moves of the first declaration and of the others walk through joins that keep what comes to them over a catalogue
pub record WalksOver (c : CatalogueValue) (q : Query) (first : List Signed) (further : List (List Signed)) (moves : List SideMoves) (out : List Signed) (old new : ℕ) : Type 0 where
  pub sides : List Sides
  pub keeps : PlanKeeps c q sides
  pub walks : Walks (plan_joints q q.decls) sides first further moves out
  pub within : new ≤ old + walk_pairs (plan_joints q q.decls) sides moves

-- the steps are at most the pairs of such a walk, in which no row moves both ways where none does in these
pub record CostsOver (c : CatalogueValue) (q : Query) (first : List Signed) (further : List (List Signed)) (old new : ℕ) : Type 0 where
  pub sides : List Sides
  pub keeps : PlanKeeps c q sides
  pub walk : CostsWalk (plan_joints q q.decls) sides first further old new

-- they are those of the walk of a change, of which a plan that reads rows keeps those of the left sides alone, and in
-- net the facts of the rows that come out
pub record Walked (c c' : CatalogueValue) (q : Query) (m : PlanMoveValue) (old new : ℕ) : Type 0 where
  pub sides : List Sides
  pub moves : List SideMoves
  pub out : List Signed
  pub walk : IsWalk c c' q sides moves out
  pub each : length moves ≡ length (plan_joints q q.decls)
  pub nets : AreNet moves
  pub out_net : IsNet out
  pub within : new ≤ old + walk_pairs (plan_joints q q.decls) sides moves
  pub kept : m.sides ≡ kept_moves q moves
  pub facts : SameNet (fact_moves q out) m.facts
  pub facts_net : IsNet m.facts
