use Rattle.std.proofs.Common.{arith}
use Rattle.join_delta.specs.Partners.{crossed, is_beside}
use Rattle.join_delta.proofs.Crossed.{kept_more}
use Rattle.join_delta.proofs.products.add_each.Goals as goal

pub loop-other-preserved : goal.loop-other-preserved
loop-other-preserved c =
    kept_more (crossed c.args.other_first c.args.m.now) (is_beside c.args.other_key.now c.args.key.now c.args.m.now) c.args.others.now c.loop-other.other-index c.other-item.result
    c.args.out.now.items c.loop-other.out.items c.add_if_equal.new.out.items (omega arith) c.other-item.is c.loop-other.invariant c.in_ok-add_if_equal.ensures
