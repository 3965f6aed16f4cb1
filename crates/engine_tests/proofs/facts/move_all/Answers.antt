use Rattle.std.proofs.Common.{rules}
use Rattle.engine_tests.proofs.Moved.{one_more}
use Rattle.engine_tests.proofs.facts.move_all.Goals as goal

pub loop-m-preserved : goal.loop-m-preserved
loop-m-preserved c =
    one_more c.args.rows.now.items c.loop-m.rows.items c.move_one.new.rows.items c.args.moves.now c.loop-m.m-index c.m-item.result (search rules) (search rules) c.loop-m.invariant (c.in_ok-move_one.ensures c.if-not-branch.false)
