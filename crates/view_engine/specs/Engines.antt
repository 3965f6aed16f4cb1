-- What an engine stands for, and what its moves do.
use Rattle.std.specs.Prelude.{◌≡◌, ℕ, ◌+◌, ◌*◌, List, Option, None, Some}
use Rattle.schema_model.specs.Catalogue.{CatalogueValue}
use Rattle.schema_model.specs.Sound.{IsSound}
use Rattle.schema_model.specs.declared.change.Change.{Change}
use Rattle.schema_model.specs.declared.change.Change.TheVariants.{Insert, Delete}
use Rattle.view_def.specs.Query.{Query}
use Rattle.view_def.specs.Profile.{IsViewOfProfile}
use Rattle.flow_law.specs.declared.line.TableLine.{TableLine}
use Rattle.flow_law.specs.declared.refused.EvalFault.{EvalFault}
use Rattle.flow_law.specs.Script.{script}
use Rattle.flow_law.specs.Faults.{IsFaultOf}
use Rattle.view_meaning.specs.Meaning.{facts, meaning, shape_of}
use Rattle.view_meaning.specs.Refusal.{refusal}
use Rattle.plan_law.specs.PlanMoves.{fact_rows}
use Rattle.plan_law.specs.Marks.{touched_by, flat_moved_by}
use Rattle.plan_translate.specs.Plans.{query_in, PlanStands, PlanMoves}
use Rattle.view_engine.specs.declared.engine.Engine.{Engine}
use Rattle.view_engine.specs.declared.moved.EngineMove.{EngineMove}
use Rattle.view_engine.specs.declared.moved.EngineReady.{EngineReady}
use Rattle.view_engine.specs.Forms.{KeepsTables, made_for, IsReadyFor}

-- the view of an engine
abbrev pub view_in : Engine → Query
view_in e = query_in e.plan

-- the plan stands for the catalogue, and the tables keep the view's facts over it, which are not refused
pub record EngineStands (c : CatalogueValue) (e : Engine) : Type 0 where
  pub profile : IsViewOfProfile (view_in e)
  pub plan : PlanStands c e.plan
  pub tables : KeepsTables (shape_of (view_in e)) e.tables (fact_rows c (view_in e))
  pub allowed : refusal c (view_in e) ≡ None

-- why a view has no tables over a catalogue, or there was no memory
abbrev pub IsViewFault : CatalogueValue → Query → EvalFault → Type 0
IsViewFault c q stop = IsFaultOf (shape_of q) (facts c q) stop

-- the lines of a move
abbrev pub lines_in : EngineMove → List TableLine
lines_in m = m.lines.items

-- a move takes what an engine keeps from one sound catalogue to another, for which the view is not refused, and its lines are the script between the view's tables
pub record EngineMoves (c c' : CatalogueValue) (q : Query) (m : EngineMove) : Type 0 where
  pub sound : IsSound c'
  pub plan : PlanMoves c c' q m.plan
  pub allowed : refusal c' q ≡ None
  pub lines_are : lines_in m ≡ script (meaning c q) (meaning c' q)

-- four for each partial combination that holds a flat row of the changed row, and four for each such flat row
abbrev pub four_each : CatalogueValue → Query → Change → ℕ
four_each c q g = 4 * touched_by c q g + 4 * flat_moved_by c q g

-- at most how many steps a change of one row takes; of other changes nothing is said
abbrev pub row_limit : CatalogueValue → Query → Change → Option ℕ
row_limit c q (Insert db rel row) = Some (four_each c q (Insert db rel row))
row_limit c q (Delete db rel row) = Some (four_each c q (Delete db rel row))
row_limit c q g = None

-- an engine has another's view, and stands for all that it stood for
pub record StandsAs (old new : Engine) : Type 0 where
  pub view : view_in new ≡ view_in old
  pub stands : (c : CatalogueValue) → EngineStands c old → EngineStands c new

-- this was made ready for a move
pub record IsReadyMove (m : EngineMove) (ready : EngineReady) : Type 0 where
  pub plan : ready.plan ≡ m.plan.sides
  pub tables : made_for ready.tables ≡ m.plan.facts

-- and it waits in an engine
pub record IsReadyEngine (e : Engine) (ready : EngineReady) : Type 0 where
  pub plan : e.plan.waiting ≡ Some ready.plan
  pub tables : IsReadyFor e.tables ready.tables
