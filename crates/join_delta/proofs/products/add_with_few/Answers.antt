use Rattle.std.proofs.Common.{arith}
use Rattle.join_delta.specs.Partners.{crossed_with}
use Rattle.join_delta.proofs.Sides.{flat_more}
use Rattle.join_delta.proofs.products.add_with_few.Goals as goal

pub loop-m-preserved : goal.loop-m-preserved
loop-m-preserved c =
    flat_more (crossed_with c.args.few_first c.args.few.key.now c.args.side.key.now c.args.few.moves.now) c.args.side.moves.now c.loop-m.m-index c.m-item.result
    c.args.out.now.items c.loop-m.out.items c.add_each.new.out.items (omega arith) c.m-item.is c.loop-m.invariant c.in_ok-add_each.ensures
