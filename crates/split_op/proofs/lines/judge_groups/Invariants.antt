use Rattle.std.proofs.Common.{◌≡◌, ◌≤◌, ◌+◌, ℕ, List, Some, ◌⊎◌, [], map, take}
use Rattle.std.specs.List.{AllByRecursion}
use Rattle.ss_text.specs.Texts.{Text, Row, text_eq}
use Rattle.indexmap.specs.IndexMap.{get}
use Rattle.flow_law.specs.declared.shape.Shape.{Shape}
use Rattle.operator_law.specs.Bags.{weigh}
use Rattle.unfold_op.specs.FactMoves.{facts_in}
use Rattle.split_op.specs.declared.groups.Group.{Group}
use Rattle.split_op.specs.Groups.{group_label}
use Rattle.split_op.specs.Parts.{FitsParts}
use Rattle.split_op.specs.Judged.{IsJudged}
use Rattle.split_op.proofs.lines.judge_groups.Given as goal

abbrev pub invariant-loop-group : goal.invariant-loop-group
invariant-loop-group g l = record {
  judged : (shape : Shape) (old new : List Row) → FitsParts g.I.TableOperator.table shape l.pattern (get text_eq l.parts) l.groups old new → IsJudged shape [] (facts_in shape old) (facts_in shape new) l.fn.judged → IsJudged shape (map group_label (take l.group-index l.groups)) (facts_in shape old) (facts_in shape new) l.judged;
  cost : (b : Text → ℕ) → AllByRecursion (λ (d : Group). (t : _) → (get text_eq l.parts d.label ≡ Some t) ⊎ g.I.Kept.alike l.pattern t → g.I.Operator.is_bound t tt d.moves (b d.label)) l.groups → l.steps ≤ l.fn.steps + weigh (λ (d : Group). b d.label) (take l.group-index l.groups);
  rises : l.fn.steps ≤ l.steps;
}
