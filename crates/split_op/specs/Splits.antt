-- What an operator for the tables of all labels keeps.
use Rattle.std.specs.Prelude.{◌≡◌, ◌<◌, ◌≤◌, ◌^◌, ℕ, List, Option, Some, None, ◌⊎◌, length}
use Rattle.std.specs.List.{All}
use Rattle.std.specs.Map.{lookup}
use Rattle.ss_text.specs.Texts.{Text, Row, text_eq}
use Rattle.flow_law.specs.declared.shape.Shape.{Shape}
use Rattle.flow_law.specs.Facts.{illegal, conflict}
use Rattle.flow_law.specs.FactRows.{fact_width}
use Rattle.operator_law.specs.declared.delta.Signed.{Signed}
use Rattle.operator_law.specs.Bags.{MovesBag, weigh}
use Rattle.unfold_op.specs.FactMoves.{facts_in}
use Rattle.unfold_op.specs.OneTables.{OneTableValue}
use Rattle.split_op.specs.Labels.{rows_of, moves_of, labels_moved}
use Rattle.split_op.specs.Parts.{SameColumns, KeepsParts}

-- the form of the tables, the pattern of the operators for one table each, these by their labels, and the change that waits
pub record SplitValue (I : Type 0) : Type 0 where
  pub shape : Shape
  pub pattern : I
  pub parts : List (Text × I)
  pub waiting : Option (List Signed)

-- the operator of a label, if there is one
abbrev pub part_of : {I : Type 0} → List (Text × I) → Text → Option I
part_of parts label = lookup (text_eq label) parts

-- the facts in these rows are kept, label by label, and they are not refused
pub record KeepsAll {I : Type 0} (table : I → OneTableValue) (shape : Shape) (at : Text → Option I) (rows : List Row) : Type 0 where
  pub parts : KeepsParts table shape at rows
  pub legal : illegal shape (facts_in shape rows) ≡ None
  pub clean : conflict (facts_in shape rows) ≡ None

abbrev pub KeepsSplit : {I : Type 0} → (I → OneTableValue) → SplitValue I → List Row → Type 0
KeepsSplit table s rows = KeepsAll table s.shape (part_of s.parts) rows

-- the facts in these rows can be kept
pub record CanKeepSplit (shape : Shape) (rows : List Row) : Type 0 where
  pub few : length rows < 2 ^ 128
  pub legal : illegal shape (facts_in shape rows) ≡ None
  pub clean : conflict (facts_in shape rows) ≡ None

-- the rows that move are those of facts
abbrev pub AreWide : Shape → List Signed → Type 0
AreWide shape ms = All (λ (m : Signed). length m.row ≡ fact_width shape) ms

-- such moves take kept facts to facts that can be counted label by label
pub record MovesAll {I : Type 0} (table : I → OneTableValue) (shape : Shape) (pattern : I) (at : Text → Option I) (ms : List Signed) (old new : List Row) : Type 0 where
  pub label : shape.label ≡ None
  pub columns : SameColumns shape (table pattern).shape
  pub keeps : KeepsAll table shape at old
  pub wide : AreWide shape ms
  pub moves : MovesBag old ms new
  pub few : (label : Text) → length (rows_of label new) < 2 ^ 128

-- such moves fit what is kept, and the facts after them can be counted
pub record CanPrepareSplit {I : Type 0} (table : I → OneTableValue) (s : SplitValue I) (ms : List Signed) : Type 0 where
  pub old : List Row
  pub new : List Row
  pub keeps : KeepsSplit table s old
  pub wide : AreWide s.shape ms
  pub moves : MovesBag old ms new
  pub few : length new < 2 ^ 128

-- the operators of the labels that move, kept or made anew, take so many steps together
pub record IsSplitBound {I : Type 0} (is_bound : I → List Signed → ℕ → Type 0) (alike : I → I → Type 0) (pattern : I) (at : Text → Option I) (ms : List Signed) (n : ℕ) : Type 0 where
  pub steps : Text → ℕ
  pub each : (label : Text) (t : I) → (at label ≡ Some t) ⊎ alike pattern t → is_bound t (moves_of label ms) (steps label)
  pub all : weigh steps (labels_moved ms) ≤ n

-- both have the same columns, and what is like the second's pattern is like the first's
pub record AlikeSplits {I : Type 0} (alike : I → I → Type 0) (a b : SplitValue I) : Type 0 where
  pub shape : a.shape ≡ b.shape
  pub pattern : (t : I) → alike b.pattern t → alike a.pattern t
