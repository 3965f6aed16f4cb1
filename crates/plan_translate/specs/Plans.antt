-- What contracts see of a plan and of its moves.
use Rattle.std.specs.Prelude.{List, Option, ◌≡◌, []}
use Rattle.schema_model.specs.Catalogue.{CatalogueValue}
use Rattle.view_def.specs.declared.typed.View.{View}
use Rattle.view_def.specs.Query.{Query, query_of}
use Rattle.plan_law.specs.Chain.{Sides, SideMoves}
use Rattle.plan_law.specs.PlanMoves.{PlanKeeps}
use Rattle.operator_law.specs.declared.delta.Signed.{Signed}
use Rattle.plan_translate.specs.Read.{kept_sides}
use Rattle.plan_translate.specs.Moves.{MovesSides, MovesFacts}

-- the view, the rows that each join keeps of its two sides, and how these will be moved by what waits
pub record PlanValue : Type 0 where
  pub view : View
  pub sides : List Sides
  pub waiting : Option (List SideMoves)

abbrev pub query_in : PlanValue → Query
query_in p = query_of p.view

-- the moves of the sides of each join, and those of the fact rows
pub record PlanMoveValue : Type 0 where
  pub sides : List SideMoves
  pub facts : List Signed

-- each join keeps what comes to it over the catalogue, in some order; or its left side alone, where rows are read
pub record JoinsStand (c : CatalogueValue) (q : Query) (kept : List Sides) : Type 0 where
  pub sides : List Sides
  pub keeps : PlanKeeps c q sides
  pub kept_are : kept ≡ kept_sides q sides

-- so the joins of a plan
abbrev pub PlanStands : CatalogueValue → PlanValue → Type 0
PlanStands c p = JoinsStand c (query_in p) p.sides

-- it keeps nothing, as for the catalogue that has nothing
abbrev pub IsFresh : PlanValue → Type 0
IsFresh p = PlanStands [] p

-- a move takes what a plan keeps, and its fact rows, from one catalogue to another
pub record PlanMoves (c c' : CatalogueValue) (q : Query) (m : PlanMoveValue) : Type 0 where
  pub sides : MovesSides c c' q m.sides
  pub facts : MovesFacts c c' q m.facts

-- it stands for all that another stood for
pub record StandsAs (old new : PlanValue) : Type 0 where
  pub view : new.view ≡ old.view
  pub stands : (c : CatalogueValue) → PlanStands c old → PlanStands c new
