use Rattle.std.proofs.Common.{arith}
use Rattle.join_delta.proofs.Crossed.{groups_more}
use Rattle.join_delta.specs.Groups.{group_in}
use Rattle.join_delta.proofs.groups.groups_of.Goals as goal

pub loop-m-preserved : goal.loop-m-preserved
loop-m-preserved c = λ k.
    groups_more c.args.seed c.args.key.now c.args.moves.now c.loop-m.m-index c.m-item.result c.mark.result k (group_in c.loop-m.groups k) (group_in c.add_to_group.new.groups k)
    (omega arith) c.m-item.is c.mark.ensures (c.loop-m.invariant k) (c.in_ok-add_to_group.ensures k)
