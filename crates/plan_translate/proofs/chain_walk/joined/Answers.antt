use Rattle.std.proofs.Common.{◌+◌, arith}
use Rattle.join_delta.specs.Joined.{matches, pairs_right, pairs_left}
use Rattle.join_delta.specs.Joins.{JoinValue}
use Rattle.plan_translate.proofs.chain_walk.joined.Goals as goal

pub returns-clause-cost : goal.returns-clause-cost
returns-clause-cost g c =
    let j : JoinValue = c.args.join.now in
    let equal = matches j.left_key j.right_key in
    let n = pairs_right equal j.right c.args.change.now.0 + pairs_left equal j.left c.args.change.now.1 in
    omega (arith, c.prepare.ensures.cost n (omega arith))
