-- What the fields of an operator for the tables of all labels are to each other.
use Rattle.std.specs.Prelude.{◌≡◌, ◌≤◌, Option, Some, None, List, length}
use Rattle.ss_text.specs.Texts.{Text, text_eq}
use Rattle.flow_law.specs.declared.shape.Shape.{Shape}
use Rattle.operator_law.specs.declared.delta.Signed.{Signed}
use Rattle.indexmap.specs.IndexMap.{IndexMap, get, spare}
use Rattle.unfold_op.specs.OneTables.{OneTableValue}
use Rattle.split_op.specs.declared.split.Waiting.{Waiting}
use Rattle.split_op.specs.Groups.{grouped}
use Rattle.split_op.specs.Labels.{labels_moved}
use Rattle.split_op.specs.Parts.{SameColumns}
use Rattle.split_op.specs.Stages.{AreReady}

-- what waits was made ready for these operators
pub record IsReadyFor {I R S : Type 0} (table : I → OneTableValue) (waiting : I → Option (List Signed)) (made_for : R → List Signed) (pattern : I) (parts : IndexMap Text I S) (w : Waiting I R) : Type 0 where
  pub ready : AreReady table waiting made_for (table pattern).shape (get text_eq parts) (grouped w.of.value (labels_moved w.of.value)) w.stages.items
  pub room : length w.stages.items ≤ spare parts

-- the label is a variable, the pattern is for tables of these columns, and what waits is ready
pub record IsSplit {I R S : Type 0} (table : I → OneTableValue) (waiting : I → Option (List Signed)) (made_for : R → List Signed) (shape : Shape) (pattern : I) (parts : IndexMap Text I S) (waits : Option (Waiting I R)) : Type 0 where
  pub label : shape.label ≡ None
  pub columns : SameColumns shape (table pattern).shape
  pub ready : (w : Waiting I R) → waits ≡ Some w → IsReadyFor table waiting made_for pattern parts w
