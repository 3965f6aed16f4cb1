-- The lines of tables, judged label by label.
use Rattle.std.specs.Prelude.{◌≡◌, List, flat_map, None}
use Rattle.ss_text.specs.Texts.{Text}
use Rattle.flow_law.specs.declared.shape.Shape.{Shape}
use Rattle.flow_law.specs.declared.line.TableLine.{TableLine}
use Rattle.flow_law.specs.Facts.{Fact}
use Rattle.split_op.specs.LabelLines.{label_lines, first_conflict, first_illegal_column}
use Rattle.split_op.specs.declared.judged.Judged.{Judged}

-- no column of these labels is illegal; the first conflict is this one, or there is none and these are the lines
pub record IsJudged (shape : Shape) (labels : List Text) (old new : List Fact) (j : Judged) : Type 0 where
  pub legal : first_illegal_column shape.constants new labels ≡ None
  pub clash_is : first_conflict new labels ≡ j.clash
  pub lines_are : j.clash ≡ None → j.lines.items ≡ flat_map (label_lines shape old new) labels

-- the facts of these labels are not refused, and these are their lines
pub record GivesParts (shape : Shape) (labels : List Text) (old new : List Fact) (lines : List TableLine) : Type 0 where
  pub legal : first_illegal_column shape.constants new labels ≡ None
  pub clean : first_conflict new labels ≡ None
  pub lines_are : lines ≡ flat_map (label_lines shape old new) labels
