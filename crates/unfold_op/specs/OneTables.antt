-- What an operator for the facts of one table keeps, and what it answers.
use Rattle.std.specs.Prelude.{◌≡◌, ◌<◌, ◌^◌, ℕ, Bool, not, ◌&&◌, nat_lt, List, [], ◌∷◌, ◌++◌, Option, None, length, cond, IsTrue}
use Rattle.std.specs.List.{All}
use Rattle.ss_text.specs.Texts.{Text, Row}
use Rattle.flow_law.specs.declared.shape.Shape.{Shape}
use Rattle.flow_law.specs.declared.line.TableLine.{TableLine}
use Rattle.flow_law.specs.declared.line.TableLine.TheVariants.{TableMinus, TablePlus}
use Rattle.flow_law.specs.declared.refused.EvalFault.{EvalFault}
use Rattle.flow_law.specs.Facts.{Fact, illegal_column, conflict}
use Rattle.flow_law.specs.FactRows.{fact_row, fact_in, fact_width, IsFactOf}
use Rattle.flow_law.specs.FactTables.{fact_table, tables}
use Rattle.flow_law.specs.Labelled.{AllBear}
use Rattle.flow_law.specs.Lines.{fit_lines, after_lines}
use Rattle.flow_law.specs.Script.{lines_between}
use Rattle.flow_law.specs.Tables.{TablesValue}
use Rattle.unfold_op.specs.declared.facts.FactCounts.{FactCounts}
use Rattle.unfold_op.specs.Moves.{Stands}
use Rattle.unfold_op.specs.Stopped.{StopsFor}
use Rattle.operator_law.specs.declared.delta.Signed.{Signed}
use Rattle.operator_law.specs.Bags.{MovesBag}
use Rattle.unfold_op.specs.FactMoves.{facts_in, facts_moved}

-- the form of the table, the counts of its facts, their label, how many they are, and the change that waits
pub record OneTableValue : Type 0 where
  pub shape : Shape
  pub counts : FactCounts
  pub label : Text
  pub total : ℕ
  pub waiting : Option (List Signed)

-- the table of the facts in rows, none where there is no fact
abbrev pub table_value : OneTableValue → List Row → TablesValue
table_value t rows = tables t.shape (facts_in t.shape rows)

-- the facts in these rows are kept
pub record KeepsFacts (t : OneTableValue) (rows : List Row) : Type 0 where
  pub stands : Stands t.counts (facts_in t.shape rows)
  pub total : t.total ≡ length rows
  pub bear : AllBear t.label (facts_in t.shape rows)
  pub legal : illegal_column t.shape.constants (facts_in t.shape rows) ≡ None

-- the facts in these rows can be kept
pub record CanKeep (shape : Shape) (rows : List Row) : Type 0 where
  pub few : length rows < 2 ^ 128
  pub legal : illegal_column shape.constants (facts_in shape rows) ≡ None
  pub clean : conflict (facts_in shape rows) ≡ None

-- the fact can be kept beside those in rows that are: they bear one label
pub record CanAdd (t : OneTableValue) (fact : Fact) (rows : List Row) : Type 0 where
  pub keeps : KeepsFacts t rows
  pub form : IsFactOf t.shape fact
  pub bear : AllBear fact.label (facts_in t.shape (fact_row fact ∷ rows))
  pub can : CanKeep t.shape (fact_row fact ∷ rows)

-- the rows that move are those of facts, and bear one label: that of the kept facts, where there are some
pub record BearsOne (shape : Shape) (kept : Text) (total : ℕ) (ms : List Signed) : Type 0 where
  pub label : Text
  pub bear : AllBear label (facts_moved shape ms)
  pub same : 0 < total → kept ≡ label
  pub wide : All (λ m. length m.row ≡ fact_width shape) ms

-- the label of a change
abbrev pub label_for : Shape → Text → List Signed → Text
label_for shape kept [] = kept
label_for shape kept (m ∷ ms) = (fact_in shape m.row).label

-- such moves fit what is kept, and the facts after them can be counted
pub record CanPrepare (t : OneTableValue) (ms : List Signed) : Type 0 where
  pub bears : BearsOne t.shape t.label t.total ms
  pub old : List Row
  pub new : List Row
  pub keeps : KeepsFacts t old
  pub moves : MovesBag old ms new
  pub few : length new < 2 ^ 128

-- lines behind that of a table that comes, or before that of one that goes
abbrev pub framed : Text → Bool → Bool → List TableLine → List TableLine
framed label before after lines = cond (not before && after) (TablePlus label ∷ []) [] ++ lines ++ cond (before && not after) (TableMinus label ∷ []) []

-- the lines by which the table of a label changes with its facts
abbrev pub table_lines : Text → List Fact → List Fact → List TableLine
table_lines label old new = framed label (nat_lt 0 (length old)) (nat_lt 0 (length new)) (lines_between label (fact_table old) (fact_table new))

-- the facts after the moves are not refused, and these are the lines
pub record GivesLines (t : OneTableValue) (ms : List Signed) (lines : List TableLine) (old new : List Row) : Type 0 where
  pub legal : illegal_column t.shape.constants (facts_in t.shape new) ≡ None
  pub clean : conflict (facts_in t.shape new) ≡ None
  pub lines_are : lines ≡ table_lines (label_for t.shape t.label ms) (facts_in t.shape old) (facts_in t.shape new)

abbrev pub Gives : OneTableValue → List Signed → List TableLine → Type 0
Gives t ms lines = (old new : List Row) → KeepsFacts t old → MovesBag old ms new → GivesLines t ms lines old new

-- the facts after the moves are refused so
abbrev pub MayStop : OneTableValue → List Signed → EvalFault → Type 0
MayStop t ms stop =
    (old new : List Row) → KeepsFacts t old → MovesBag old ms new
    → StopsFor (illegal_column t.shape.constants (facts_in t.shape new)) (conflict (facts_in t.shape new)) stop

-- the lines take the table before to the one after, each fitting
abbrev pub Makes : OneTableValue → List Signed → List TableLine → Type 0
Makes t ms lines =
    (old new : List Row) → KeepsFacts t old → MovesBag old ms new
    → IsTrue (fit_lines (table_value t old) lines) × (table_value t new ≡ after_lines (table_value t old) lines)
