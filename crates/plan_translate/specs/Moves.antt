-- Moves of what the joins of a plan keep, and of its fact rows.
use Rattle.std.specs.Prelude.{◌≡◌, List, [], ◌∷◌}
use Rattle.ss_text.specs.Texts.{Row}
use Rattle.schema_model.specs.Catalogue.{CatalogueValue}
use Rattle.view_def.specs.Query.{Query}
use Rattle.schema_delta.specs.Net.{IsNet}
use Rattle.plan_law.specs.Chain.{Joint, SideMoves, joint_rows}
use Rattle.plan_law.specs.PlanRows.{plan_joints, first_rows, further_rows}
use Rattle.plan_law.specs.PlanMoves.{fact_rows}
use Rattle.operator_law.specs.declared.delta.Signed.{Signed}
use Rattle.operator_law.specs.Bags.{MovesBag}
use Rattle.plan_translate.specs.Read.{kept_moves}

-- both sides of each join are moved: from the first rows and those of each declaration to others
abbrev pub MovesChain : List Joint → List Row → List (List Row) → List SideMoves → List Row → List (List Row) → Type 0
MovesChain [] xs yss [] xs' yss' = Unit {0}
MovesChain (j ∷ js) xs (ys ∷ yss) (p ∷ ps) xs' (ys' ∷ yss') =
    (MovesBag xs p.left xs') × (MovesBag ys p.right ys') × MovesChain js (joint_rows j xs ys) yss ps (joint_rows j xs' ys') yss'
MovesChain js xs yss ps xs' yss' = ⊥

-- those of a view's plan, from one catalogue to another
abbrev pub MovesAll : CatalogueValue → CatalogueValue → Query → List SideMoves → Type 0
MovesAll c c' q ps =
    MovesChain (plan_joints q q.decls) (first_rows c q q.decls) (further_rows c q q.decls) ps (first_rows c' q q.decls) (further_rows c' q q.decls)

-- and of what is kept of them
pub record MovesSides (c c' : CatalogueValue) (q : Query) (ps : List SideMoves) : Type 0 where
  pub moves : List SideMoves
  pub chain : MovesAll c c' q moves
  pub kept : ps ≡ kept_moves q moves

-- the fact rows are moved, and none moves both ways
pub record MovesFacts (c c' : CatalogueValue) (q : Query) (ms : List Signed) : Type 0 where
  pub moved : MovesBag (fact_rows c q) ms (fact_rows c' q)
  pub net : IsNet ms
