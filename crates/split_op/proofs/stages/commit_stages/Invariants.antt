use Rattle.std.proofs.Common.{◌≤◌, length}
use Rattle.ss_text.specs.Texts.{text_eq}
use Rattle.indexmap.specs.IndexMap.{get, spare}
use Rattle.split_op.proofs.Committing.{IsCommitted}
use Rattle.split_op.proofs.stages.commit_stages.Given as goal

abbrev pub invariant-loop-stage : goal.invariant-loop-stage
invariant-loop-stage g l = record {
  committed : IsCommitted g.I.TableOperator.table g.I.Kept.waiting g.I.Kept.made_for (get text_eq l.fn.parts) (get text_eq l.parts) l.fn.stages.items l.left.items;
  room : length l.left.items ≤ spare l.parts;
}

abbrev pub decreases-loop-stage : goal.decreases-loop-stage
decreases-loop-stage g l = length l.left.items
