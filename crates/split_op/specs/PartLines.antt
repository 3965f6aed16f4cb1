-- The lines of the table of one label.
use Rattle.std.specs.Prelude.{◌≡◌, List, [], ◌∷◌, Option, Some, None}
use Rattle.std.specs.Bool.{⊤}
use Rattle.ss_text.specs.Texts.{Text, Row}
use Rattle.flow_law.specs.declared.shape.Shape.{Shape}
use Rattle.flow_law.specs.declared.line.TableLine.{TableLine}
use Rattle.flow_law.specs.declared.refused.EvalFault.{EvalFault}
use Rattle.flow_law.specs.declared.refused.EvalFault.TheVariants as eval
use Rattle.flow_law.specs.Facts.{Fact, illegal_column, conflict}
use Rattle.flow_law.specs.FactTables.{fact_table}
use Rattle.flow_law.specs.Script.{lines_for}
use Rattle.flow_law.specs.Tables.{TableValue}
use Rattle.unfold_op.specs.FactMoves.{facts_in}

-- the table of the facts of one label, where there are some
abbrev pub table_if : List Fact → Option TableValue
table_if [] = None
table_if (f ∷ fs) = Some (fact_table (f ∷ fs))

-- the facts of one label in the new rows are not refused, and these are the lines of its table
pub record GivesPart (shape : Shape) (label : Text) (old new : List Row) (lines : List TableLine) : Type 0 where
  pub legal : illegal_column shape.constants (facts_in shape new) ≡ None
  pub clean : conflict (facts_in shape new) ≡ None
  pub lines_are : lines ≡ lines_for label (table_if (facts_in shape old)) (table_if (facts_in shape new))

-- the columns of a label are the cause to stop at once; a conflict is not
abbrev pub StopsAtOnce : Shape → List Fact → EvalFault → Type 0
StopsAtOnce shape own (eval.Illegal l) = illegal_column shape.constants own ≡ Some l
StopsAtOnce shape own (eval.Conflict c) = ⊥
StopsAtOnce shape own eval.NoMemory = ⊤
