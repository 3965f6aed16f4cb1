-- What a move of a plan costs.
use Rattle.std.specs.Prelude.{◌≡◌, ℕ, ◌+◌, ◌*◌, ◌≤◌, Bool, List, length}
use Rattle.schema_model.specs.Catalogue.{CatalogueValue}
use Rattle.schema_model.specs.declared.change.Change.{Change}
use Rattle.view_def.specs.Query.{Query}
use Rattle.operator_law.specs.declared.delta.Signed.{Signed}
use Rattle.schema_delta.specs.Net.{IsNet}
use Rattle.plan_law.specs.Chain.{Sides, SideMoves, AreNet, walk_pairs}
use Rattle.plan_law.specs.Laws.{IsWalk}
use Rattle.plan_law.specs.PlanRows.{plan_joints}
use Rattle.plan_law.specs.Marks.{OfRow, touched_by, flat_moved_by}
use Rattle.plan_translate.specs.Read.{kept_moves}
use Rattle.plan_translate.specs.Plans.{PlanMoveValue}

-- the steps of a change from one catalogue to another are at most the pairs of a move of one side of a join and a row of the
-- other, over all joins of the plan, where both sides of each have what comes to them, and no row moves both ways
pub record CountsWalk (c c' : CatalogueValue) (q : Query) (old new : ℕ) : Type 0 where
  pub sides : List Sides
  pub moves : List SideMoves
  pub out : List Signed
  pub walk : IsWalk c c' q sides moves out
  pub nets : AreNet moves
  pub out_net : IsNet out
  pub within : new ≤ old + walk_pairs (plan_joints q q.decls) sides moves

-- and the walk is that of a move
pub record CountsPairs (c c' : CatalogueValue) (q : Query) (m : PlanMoveValue) (old new : ℕ) : Type 0 where
  pub counts : CountsWalk c c' q old new
  pub moves_are : m.sides ≡ kept_moves q counts.moves

-- for a change of one row, the combinations that hold it bound the steps with twice the moves of fact rows
abbrev pub IsRowBounded : CatalogueValue → Query → Change → PlanMoveValue → ℕ → ℕ → Type 0
IsRowBounded c q g m old new =
    (up : Bool) → OfRow g up → new + 2 * length m.facts ≤ old + 4 * touched_by c q g + 4 * flat_moved_by c q g
