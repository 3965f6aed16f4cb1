use Rattle.std.proofs.Common.{◌∙◌, ◌∷◌, [], ap, subst, length, arith}
use Rattle.std.proofs.lemmas.List.{length-append}
use Rattle.ss_text.specs.Texts.{text_eq}
use Rattle.indexmap.specs.IndexMap.{get}
use Rattle.split_op.proofs.Committing.{IsCommitted, next_stage, one_committed, none_committed, all_moved}
use Rattle.split_op.proofs.stages.commit_stages.Goals as goal

pub loop-stage-init : goal.loop-stage-init
loop-stage-init g c = record {
  committed = none_committed g.I.TableOperator.table g.I.Kept.waiting g.I.Kept.made_for (get text_eq c.args.parts.now) c.args.stages.items;
  room = c.requires.room;
}

pub commit_stage-requires-clause-ready : goal.commit_stage-requires-clause-ready
commit_stage-requires-clause-ready g c =
    let left = c.pop.new.self.items in
    let s = c.in-Some.stage in
    let h = subst (IsCommitted g.I.TableOperator.table g.I.Kept.waiting g.I.Kept.made_for (get text_eq c.args.parts.now) (get text_eq c.loop-stage.parts) c.args.stages.items) c.in-Some.ensures.items c.loop-stage.invariant.committed in
    (c.requires.ready.0, next_stage g.I.TableOperator.table g.I.Kept.waiting g.I.Kept.made_for (get text_eq c.args.parts.now) (get text_eq c.loop-stage.parts) (get text_eq c.loop-stage.parts) c.args.stages.items left s c.requires.ascend h c.requires.ready.0 c.requires.ready.1)

pub loop-stage-preserved : goal.loop-stage-preserved
loop-stage-preserved g c =
    let left = c.pop.new.self.items in
    let s = c.in-Some.stage in
    let h = subst (IsCommitted g.I.TableOperator.table g.I.Kept.waiting g.I.Kept.made_for (get text_eq c.args.parts.now) (get text_eq c.loop-stage.parts) c.args.stages.items) c.in-Some.ensures.items c.loop-stage.invariant.committed in
    let count = ap length c.in-Some.ensures.items ∙ length-append left (s ∷ []) in
    record {
      committed = one_committed g.I.TableOperator.table g.I.Kept.waiting g.I.Kept.made_for (get text_eq c.args.parts.now) (get text_eq c.loop-stage.parts) (get text_eq c.commit_stage.new.parts) c.args.stages.items left s c.requires.ascend h c.commit_stage.ensures.moved c.commit_stage.ensures.others;
      room = omega (arith, count, c.loop-stage.invariant.room, c.commit_stage.ensures.room);
    }

pub returns-clause-moved : goal.returns-clause-moved
returns-clause-moved g c = all_moved g.I.TableOperator.table g.I.Kept.waiting g.I.Kept.made_for (get text_eq c.args.parts.now) (get text_eq c.loop-stage.parts) c.args.stages.items c.loop-stage.left.items (omega (arith, c.in_default.ensures.cases.0, c.loop-stage.left.ok.0)) c.loop-stage.invariant.committed
