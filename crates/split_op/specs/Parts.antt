-- What operators for one table each keep of facts, label by label.
use Rattle.std.specs.Prelude.{◌≡◌, ◌<◌, List, [], Option, Some, None, length, is_some}
use Rattle.std.specs.List.{AllByRecursion}
use Rattle.ss_text.specs.Texts.{Text, Row}
use Rattle.flow_law.specs.declared.shape.Shape.{Shape}
use Rattle.unfold_op.specs.OneTables.{OneTableValue, KeepsFacts}
use Rattle.split_op.specs.declared.groups.Group.{Group}
use Rattle.split_op.specs.Labels.{rows_of}
use Rattle.split_op.specs.Tables.{Fits}

-- the constant columns are the same, and both have a variable column or neither has
pub record SameColumns (a b : Shape) : Type 0 where
  pub constants : b.constants ≡ a.constants
  pub variable : is_some b.spot ≡ is_some a.spot

-- an operator for tables of these columns keeps the facts in these rows
pub record KeepsRows {I : Type 0} (table : I → OneTableValue) (shape : Shape) (t : I) (rows : List Row) : Type 0 where
  pub columns : SameColumns shape (table t).shape
  pub keeps : KeepsFacts (table t) rows

module _ {I : Type 0} (table : I → OneTableValue) (shape : Shape) where
  -- the facts in these rows of one label are kept, by an operator just where there are some
  abbrev pub KeepsPart : Option I → List Row → Type 0
  KeepsPart None rows = rows ≡ []
  KeepsPart (Some t) rows = KeepsRows table shape t rows × (0 < length rows)

  -- so for each label
  abbrev pub KeepsParts : (Text → Option I) → List Row → Type 0
  KeepsParts at rows = (label : Text) → KeepsPart (at label) (rows_of label rows)

-- the moves of a label fit the rows that are kept for it
pub record FitsPart {I : Type 0} (table : I → OneTableValue) (shape : Shape) (o : Option I) (g : Group) (old new : List Row) : Type 0 where
  pub keeps : KeepsPart table shape o old
  pub fits : Fits shape g.label old g.moves new

-- the moves fit what is kept of the rows label by label, and the label of the tables is a variable
pub record FitsParts {I : Type 0} (table : I → OneTableValue) (shape : Shape) (pattern : I) (at : Text → Option I) (groups : List Group) (old new : List Row) : Type 0 where
  pub label : shape.label ≡ None
  pub columns : SameColumns shape (table pattern).shape
  pub fits : AllByRecursion (λ (g : Group). FitsPart table shape (at g.label) g (rows_of g.label old) (rows_of g.label new)) groups
