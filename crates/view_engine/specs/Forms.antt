-- What the tables of a view keep, whatever their form, and how moves of facts change them.
use Rattle.std.specs.Prelude.{◌≡◌, ◌<◌, ◌^◌, Bool, true, false, List, [], ◌++◌, map, Option, Some, None, length}
use Rattle.std.specs.List.{All, AllByRecursion}
use Rattle.ss_text.specs.Texts.{Text, Row}
use Rattle.flow_law.specs.declared.shape.Shape.{Shape}
use Rattle.flow_law.specs.declared.line.TableLine.{TableLine}
use Rattle.flow_law.specs.declared.refused.EvalFault.{EvalFault}
use Rattle.flow_law.specs.Facts.{Fact, illegal, conflict}
use Rattle.flow_law.specs.FactRows.{fact_row, fact_width, IsFactOf}
use Rattle.flow_law.specs.Labelled.{BearLabel}
use Rattle.flow_law.specs.Faults.{IsFaultOf}
use Rattle.operator_law.specs.declared.delta.Signed.{Signed}
use Rattle.operator_law.specs.Bags.{MovesBag}
use Rattle.unfold_op.specs.FactMoves.{facts_in, facts_moved}
use Rattle.unfold_op.specs.OneTables.{OneTableValue}
use Rattle.split_op.specs.Tables.{ScriptLines}
use Rattle.split_op.specs.Parts.{SameColumns}
use Rattle.split_op.specs.Wholes.{KeepsWhole}
use Rattle.split_op.specs.Splits.{SplitValue, KeepsSplit}
use Rattle.view_engine.specs.declared.tables.ViewTables.{ViewTables}
use Rattle.view_engine.specs.declared.tables.ViewTables.TheVariants.{OneOfRows, OneOfCells, EachOfRows, EachOfCells}
use Rattle.view_engine.specs.declared.tables.TablesReady.{TablesReady}
use Rattle.view_engine.specs.declared.tables.TablesReady.TheVariants.{One, Each}

-- what is seen of an operator for one table
abbrev pub seen : OneTableValue → OneTableValue
seen t = t

-- the one table of a form with this constant label keeps the facts in these rows
pub record KeepsOne (shape : Shape) (label : Text) (t : OneTableValue) (rows : List Row) : Type 0 where
  pub label_is : shape.label ≡ Some label
  pub columns : SameColumns shape t.shape
  pub keeps : KeepsWhole label t rows

-- the tables of all labels, of this form, keep them
pub record KeepsEach (shape : Shape) (s : SplitValue OneTableValue) (rows : List Row) : Type 0 where
  pub shape_is : s.shape ≡ shape
  pub keeps : KeepsSplit seen s rows

-- tables of this form keep the facts in these rows
abbrev pub KeepsTables : Shape → ViewTables → List Row → Type 0
KeepsTables shape (OneOfRows w) rows = KeepsOne shape w.label w.inner rows
KeepsTables shape (OneOfCells w) rows = KeepsOne shape w.label w.inner rows
KeepsTables shape (EachOfRows s a) rows = KeepsEach shape s rows
KeepsTables shape (EachOfCells s a) rows = KeepsEach shape s rows

-- tables of this form can keep them
pub record CanKeepTables (shape : Shape) (rows : List Row) : Type 0 where
  pub few : length rows < 2 ^ 128
  pub legal : illegal shape (facts_in shape rows) ≡ None
  pub clean : conflict (facts_in shape rows) ≡ None
  pub bear : BearLabel shape.label (facts_in shape rows)

-- these facts, of this form, can be kept beside those in rows that are
pub record CanAddTables (shape : Shape) (t : ViewTables) (facts : List Fact) (rows : List Row) : Type 0 where
  pub keeps : KeepsTables shape t rows
  pub form : AllByRecursion (IsFactOf shape) facts
  pub can : CanKeepTables shape (map fact_row facts ++ rows)

-- and where none are
abbrev pub CanFillTables : Shape → ViewTables → List Fact → Type 0
CanFillTables shape t facts = CanAddTables shape t facts []

-- moves of facts of this form take rows to others, which can be counted
pub record MovesForm (shape : Shape) (ms : List Signed) (old new : List Row) : Type 0 where
  pub wide : All (λ (m : Signed). length m.row ≡ fact_width shape) ms
  pub bear : BearLabel shape.label (facts_moved shape ms)
  pub bear_new : BearLabel shape.label (facts_in shape new)
  pub moves : MovesBag old ms new
  pub few : length new < 2 ^ 128

-- and the former are kept
pub record MovesTables (shape : Shape) (t : ViewTables) (ms : List Signed) (old new : List Row) : Type 0 where
  pub keeps : KeepsTables shape t old
  pub form : MovesForm shape ms old new

-- whatever is kept, the lines are the script to the tables of the facts after the moves
abbrev pub TellsLines : ViewTables → List Signed → List TableLine → Type 0
TellsLines t ms lines =
    (shape : Shape) (old new : List Row) → KeepsTables shape t old → MovesBag old ms new → ScriptLines shape lines (facts_in shape old) (facts_in shape new)

-- and those facts are refused so
abbrev pub StopsSo : ViewTables → List Signed → EvalFault → Type 0
StopsSo t ms stop =
    (shape : Shape) (old new : List Row) → KeepsTables shape t old → MovesBag old ms new → IsFaultOf shape (facts_in shape new) stop

-- the moves that tables were made ready for, and those that wait in tables
abbrev pub made_for : TablesReady → List Signed
made_for (One ms) = ms
made_for (Each ms) = ms

abbrev pub waiting_in : ViewTables → Option (List Signed)
waiting_in (OneOfRows w) = w.inner.waiting
waiting_in (OneOfCells w) = w.inner.waiting
waiting_in (EachOfRows s a) = s.waiting
waiting_in (EachOfCells s a) = s.waiting

-- whether there is one table, of a constant label
abbrev pub is_one : TablesReady → Bool
is_one (One ms) = true
is_one (Each ms) = false

abbrev pub has_one : ViewTables → Bool
has_one (OneOfRows w) = true
has_one (OneOfCells w) = true
has_one (EachOfRows s a) = false
has_one (EachOfCells s a) = false

-- these tables were made ready so
pub record IsReadyFor (t : ViewTables) (ready : TablesReady) : Type 0 where
  pub waits : waiting_in t ≡ Some (made_for ready)
  pub one : is_one ready ≡ has_one t
