use Rattle.std.proofs.Common.{arith}
use Rattle.ss_text.specs.Texts.{text_eq}
use Rattle.indexmap.specs.IndexMap.{get}
use Rattle.split_op.proofs.Readying.{one_more_ready}
use Rattle.split_op.proofs.stages.reserve_stages.Goals as goal

pub loop-group-preserved : goal.loop-group-preserved
loop-group-preserved g c =
    let s = c.in_ok-stage.stage in
    let e = c.in_ok-stage.ensures in
    let i = c.loop-group.invariant in
    record {
      same = λ shape q rows h. e.same shape q rows (i.same shape q rows h);
      ready = rw c.in_ok-push.ensures.items (one_more_ready g.I.TableOperator.table g.I.Kept.waiting g.I.Kept.made_for (g.I.TableOperator.table c.args.pattern.now).shape (get text_eq c.loop-group.parts) (get text_eq c.reserve_stage.new.parts)
          c.args.groups.now c.loop-group.group-index c.group-item.result c.loop-group.stages.items s c.loop-group-test.true c.group-item.is c.requires.ascend e.others i.ready e.stage e.label e.made);
      room = omega (arith, e.room, i.room);
    }
