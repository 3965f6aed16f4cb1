-- What is said of every plan.
use Rattle.std.specs.Prelude.{◌+◌, ◌*◌, ◌≤◌, List, [], length, map, true}
use Rattle.schema_model.specs.Catalogue.{CatalogueValue}
use Rattle.schema_model.specs.declared.change.Change.{Change}
use Rattle.view_def.specs.Query.{Query}
use Rattle.view_meaning.specs.Meaning.{facts}
use Rattle.schema_delta.specs.Flat.{flat}
use Rattle.plan_law.specs.Columns.{bases, combos, combo_facts}
use Rattle.plan_law.specs.Chain.{Sides, SideMoves, Commits, walk_pairs}
use Rattle.plan_law.specs.PlanRows.{specs_from, plan_joints, plan_rows, plan_header, row_facts}
use Rattle.plan_law.specs.PlanMoves.{FlatMoved, PlanKeeps, PlanWalks, no_sides, fact_rows, fact_moves}
use Rattle.plan_law.specs.Marks.{touched_by, flat_moved_by}
use Rattle.operator_law.specs.declared.delta.Signed.{Signed}
use Rattle.operator_law.specs.Bags.{SameBag, MovesBag, all_signed}

-- the full combinations that count give the facts of the view, one for each valuation; and so do the rows of its plan
abbrev pub CombosList : CatalogueValue → Query → Type 0
CombosList c q = SameBag (facts c q) (combo_facts q (combos c q (length (bases c q))))

abbrev pub PlanLists : CatalogueValue → Query → Type 0
PlanLists c q = SameBag (facts c q) (row_facts q (plan_header q) (plan_rows c q q.decls))

-- a change of the flat rows of a view, for a plan that keeps these sides, and its walk
pub record IsWalk (c c' : CatalogueValue) (q : Query) (ks : List Sides) (ps : List SideMoves) (out : List Signed) : Type 0 where
  pub deltas : List (List Signed)
  pub moved : FlatMoved c c' q deltas
  pub stands : PlanKeeps c q ks
  pub walks : PlanWalks q ks deltas ps out

-- what comes out moves the facts
abbrev pub FactsMove : CatalogueValue → CatalogueValue → Query → List Signed → Type 0
FactsMove c c' q out = MovesBag (fact_rows c q) (fact_moves q out) (fact_rows c' q)

-- sides that are moved so stand for the catalogue after the change
abbrev pub SidesFollow : CatalogueValue → Query → List Sides → List SideMoves → Type 0
SidesFollow c' q ks ps = (ls : List Sides) → Commits ks ps ls → PlanKeeps c' q ls

-- to fill a plan is a change, from the catalogue that has nothing, by which all flat rows come
pub record IsFilled (c : CatalogueValue) (q : Query) : Type 0 where
  pub stands : PlanKeeps [] q (no_sides q)
  pub facts : SameBag (facts [] q) []
  pub comes : FlatMoved [] c q (map (λ s. all_signed true (flat c s)) (specs_from q 0 q.decls))

-- the pairs that all joins count, and the moves that come out
pub record IsBounded (c : CatalogueValue) (q : Query) (g : Change) (ks : List Sides) (ps : List SideMoves) (out : List Signed) : Type 0 where
  pub pairs : walk_pairs (plan_joints q q.decls) ks ps ≤ 2 * touched_by c q g
  pub moves : length out ≤ touched_by c q g
  -- two steps more for each move that comes out
  pub all : walk_pairs (plan_joints q q.decls) ks ps + 2 * length out ≤ 4 * touched_by c q g + 4 * flat_moved_by c q g
