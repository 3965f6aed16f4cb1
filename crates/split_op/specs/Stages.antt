-- What is made ready for the labels of a change.
use Rattle.std.specs.Prelude.{◌≡◌, List, [], map, Option, Some, None, MatchOption}
use Rattle.std.specs.List.{AllByRecursion}
use Rattle.ss_text.specs.Texts.{Text, Row}
use Rattle.flow_law.specs.declared.shape.Shape.{Shape}
use Rattle.operator_law.specs.declared.delta.Signed.{Signed}
use Rattle.operator_law.specs.Bags.{MovesBag}
use Rattle.unfold_op.specs.OneTables.{OneTableValue, KeepsFacts, CanKeep}
use Rattle.split_op.specs.declared.groups.Group.{Group}
use Rattle.split_op.specs.declared.stages.Stage.{Stage}
use Rattle.split_op.specs.Labels.{rows_of}
use Rattle.split_op.specs.Groups.{group_label}
use Rattle.split_op.specs.Parts.{SameColumns, KeepsPart, FitsParts}

-- an operator of this form that keeps no facts
pub record IsFresh {I : Type 0} (table : I → OneTableValue) (form : Shape) (t : I) : Type 0 where
  pub form_is : (table t).shape ≡ form
  pub keeps : KeepsFacts (table t) []

-- the operator of a label waits for the change that it is ready for: the one that is kept, or where none is a fresh one
pub record IsStage {I R : Type 0} (table : I → OneTableValue) (waiting : I → Option (List Signed)) (made_for : R → List Signed) (form : Shape) (at : Text → Option I) (s : Stage I R) : Type 0 where
  pub inner : I
  pub there : MatchOption s.fresh (at s.label ≡ Some inner) (λ t. (t ≡ inner) × (at s.label ≡ None) × IsFresh table form t)
  pub waits : waiting inner ≡ Some (made_for s.ready)

-- what is kept for the label of a stage, and after it
pub record MovesPart {I R : Type 0} (table : I → OneTableValue) (made_for : R → List Signed) (form : Shape) (old new : Text → Option I) (s : Stage I R) : Type 0 where
  pub moved : (shape : Shape) (x y : List Row) → SameColumns shape form → KeepsPart table shape (old s.label) x → MovesBag x (made_for s.ready) y → CanKeep shape y → KeepsPart table shape (new s.label) y

-- the operators of the labels of these groups are ready for their moves
pub record AreReady {I R : Type 0} (table : I → OneTableValue) (waiting : I → Option (List Signed)) (made_for : R → List Signed) (form : Shape) (at : Text → Option I) (groups : List Group) (stages : List (Stage I R)) : Type 0 where
  pub each : AllByRecursion (IsStage table waiting made_for form at) stages
  pub labels : map (λ (s : Stage I R). s.label) stages ≡ map group_label groups
  pub made : map (λ (s : Stage I R). made_for s.ready) stages ≡ map (λ (g : Group). g.moves) groups

-- the moves fit what is kept label by label, and the facts after them can be kept
pub record CanReserve {I : Type 0} (table : I → OneTableValue) (shape : Shape) (pattern : I) (at : Text → Option I) (groups : List Group) (x y : List Row) : Type 0 where
  pub fits : FitsParts table shape pattern at groups x y
  pub can : (label : Text) → CanKeep shape (rows_of label y)
