-- A fact that comes to those that are kept.
use Rattle.std.specs.Prelude.{List, ◌∷◌, Option}
use Rattle.ss_text.specs.Texts.{Row}
use Rattle.flow_law.specs.declared.shape.Shape.{Shape}
use Rattle.flow_law.specs.Facts.{Fact}
use Rattle.flow_law.specs.FactRows.{fact_row, IsFactOf}
use Rattle.flow_law.specs.Labelled.{AllBear}
use Rattle.unfold_op.specs.FactMoves.{facts_in}
use Rattle.unfold_op.specs.OneTables.{OneTableValue, CanKeep}
use Rattle.split_op.specs.Parts.{KeepsPart}
use Rattle.split_op.specs.Splits.{SplitValue, KeepsSplit, CanKeepSplit}

-- the fact can be kept beside those of its label in rows
pub record CanAddPart {I : Type 0} (table : I → OneTableValue) (shape : Shape) (o : Option I) (fact : Fact) (rows : List Row) : Type 0 where
  pub keeps : KeepsPart table shape o rows
  pub form : IsFactOf shape fact
  pub bear : AllBear fact.label (facts_in shape rows)
  pub can : CanKeep shape (fact_row fact ∷ rows)

-- and beside those of all labels
pub record CanAddSplit {I : Type 0} (table : I → OneTableValue) (s : SplitValue I) (fact : Fact) (rows : List Row) : Type 0 where
  pub keeps : KeepsSplit table s rows
  pub form : IsFactOf s.shape fact
  pub can : CanKeepSplit s.shape (fact_row fact ∷ rows)
