-- What an operator for the one table of a constant label keeps.
use Rattle.std.specs.Prelude.{◌≡◌, ◌<◌, ◌^◌, true, List, ◌∷◌, Some, length}
use Rattle.std.specs.List.{All}
use Rattle.ss_text.specs.Texts.{Text, Row}
use Rattle.ss_text.specs.Label.{is_table_label}
use Rattle.flow_law.specs.declared.shape.Shape.{Shape}
use Rattle.flow_law.specs.Facts.{Fact}
use Rattle.flow_law.specs.FactRows.{fact_row, fact_width, IsFactOf}
use Rattle.flow_law.specs.Labelled.{AllBear}
use Rattle.operator_law.specs.declared.delta.Signed.{Signed}
use Rattle.operator_law.specs.Bags.{MovesBag}
use Rattle.unfold_op.specs.FactMoves.{facts_in, facts_moved}
use Rattle.unfold_op.specs.OneTables.{OneTableValue, KeepsFacts, CanKeep}

-- the form of tables with this constant label
abbrev pub labelled : Text → Shape → Shape
labelled label form = record { label = Some label; constants = form.constants; spot = form.spot }

-- the facts in these rows are kept, and bear the label, which is legal
pub record KeepsWhole (label : Text) (t : OneTableValue) (rows : List Row) : Type 0 where
  pub legal : is_table_label label ≡ true
  pub keeps : KeepsFacts t rows
  pub bear : AllBear label (facts_in t.shape rows)

-- the facts in these rows can be kept
pub record CanKeepWhole (label : Text) (form : Shape) (rows : List Row) : Type 0 where
  pub can : CanKeep form rows
  pub bear : AllBear label (facts_in form rows)

-- the fact, which bears the label, can be kept beside those in these rows
pub record CanAddWhole (label : Text) (t : OneTableValue) (fact : Fact) (rows : List Row) : Type 0 where
  pub keeps : KeepsWhole label t rows
  pub form : IsFactOf t.shape fact
  pub can : CanKeepWhole label t.shape (fact_row fact ∷ rows)

-- the rows that move are those of facts that bear the label
pub record BearsLabel (label : Text) (form : Shape) (ms : List Signed) : Type 0 where
  pub bear : AllBear label (facts_moved form ms)
  pub wide : All (λ m. length m.row ≡ fact_width form) ms

-- such moves fit what is kept, and the facts after them can be counted
pub record CanPrepareWhole (label : Text) (t : OneTableValue) (ms : List Signed) : Type 0 where
  pub bears : BearsLabel label t.shape ms
  pub old : List Row
  pub new : List Row
  pub keeps : KeepsWhole label t old
  pub moves : MovesBag old ms new
  pub few : length new < 2 ^ 128
