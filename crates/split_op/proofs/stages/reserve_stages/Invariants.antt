use Rattle.std.proofs.Common.{◌≤◌, take, length, List}
use Rattle.ss_text.specs.Texts.{Text, Row, text_eq}
use Rattle.indexmap.specs.IndexMap.{get, spare}
use Rattle.flow_law.specs.declared.shape.Shape.{Shape}
use Rattle.split_op.specs.Parts.{KeepsPart}
use Rattle.split_op.specs.Stages.{AreReady}
use Rattle.split_op.proofs.stages.reserve_stages.Given as goal

abbrev pub invariant-loop-group : goal.invariant-loop-group
invariant-loop-group g l = record {
  same : (shape : Shape) (q : Text) (rows : List Row) → KeepsPart g.I.TableOperator.table shape (get text_eq l.fn.parts q) rows → KeepsPart g.I.TableOperator.table shape (get text_eq l.parts q) rows;
  ready : AreReady g.I.TableOperator.table g.I.Kept.waiting g.I.Kept.made_for (g.I.TableOperator.table l.pattern).shape (get text_eq l.parts) (take l.group-index l.groups) l.stages.items;
  room : length l.groups ≤ spare l.parts;
}
