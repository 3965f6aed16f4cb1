-- Moves of the facts of one label, and the lines between all tables.
use Rattle.std.specs.Prelude.{◌≡◌, ◌<◌, ◌^◌, List, None, length}
use Rattle.std.specs.List.{All}
use Rattle.ss_text.specs.Texts.{Text, Row}
use Rattle.flow_law.specs.declared.shape.Shape.{Shape}
use Rattle.flow_law.specs.declared.line.TableLine.{TableLine}
use Rattle.flow_law.specs.Facts.{Fact, illegal, conflict}
use Rattle.flow_law.specs.FactRows.{fact_width}
use Rattle.flow_law.specs.FactTables.{tables}
use Rattle.flow_law.specs.Labelled.{AllBear}
use Rattle.flow_law.specs.Script.{script}
use Rattle.operator_law.specs.declared.delta.Signed.{Signed}
use Rattle.operator_law.specs.Bags.{MovesBag}
use Rattle.unfold_op.specs.FactMoves.{facts_in, facts_moved}

-- the moves are of facts of this label, as are the rows that they change
pub record Fits (form : Shape) (label : Text) (old : List Row) (ms : List Signed) (new : List Row) : Type 0 where
  pub bear : AllBear label (facts_in form old)
  pub moved : AllBear label (facts_moved form ms)
  pub wide : All (λ m. length m.row ≡ fact_width form) ms
  pub moves : MovesBag old ms new
  pub few : length new < 2 ^ 128

-- the new facts are not refused, and the lines are those between all tables
pub record ScriptLines (shape : Shape) (lines : List TableLine) (old new : List Fact) : Type 0 where
  pub legal : illegal shape new ≡ None
  pub clean : conflict new ≡ None
  pub lines_are : lines ≡ script (tables shape old) (tables shape new)
