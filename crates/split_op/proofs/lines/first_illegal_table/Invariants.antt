use Rattle.std.proofs.Common.{◌≡◌, List, None, map, take}
use Rattle.std.specs.Prelude.{not, ◌&&◌}
use Rattle.std.specs.List.{list_any, find}
use Rattle.ss_text.specs.Texts.{Text, Row, text_eq}
use Rattle.ss_text.specs.Label.{is_table_label}
use Rattle.indexmap.specs.IndexMap.{get}
use Rattle.flow_law.specs.declared.shape.Shape.{Shape}
use Rattle.flow_law.specs.Facts.{Fact}
use Rattle.unfold_op.specs.FactMoves.{facts_in}
use Rattle.split_op.specs.Groups.{group_label}
use Rattle.split_op.specs.Parts.{FitsParts}
use Rattle.split_op.proofs.lines.first_illegal_table.Given as goal

abbrev pub invariant-loop-group : goal.invariant-loop-group
invariant-loop-group g l = (shape : Shape) (pattern : _) (old new : List Row) → FitsParts g.I.TableOperator.table shape pattern (get text_eq l.parts) l.groups old new
    → find (λ (label : Text). list_any (λ (f : Fact). text_eq label f.label) (facts_in shape new) && not (is_table_label label)) (map group_label (take l.group-index l.groups)) ≡ None
