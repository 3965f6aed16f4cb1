use Rattle.join_delta.specs.Joined.{matches}
use Rattle.join_delta.proofs.Bilinear.{moves_joined_same}
use Rattle.join_delta.proofs.operator.JoinOperator.prepare.Goals as goal

pub returns-clause-law : goal.returns-clause-law
returns-clause-law g c = λ x y h m.
    let j = c.args.self.now in
    moves_joined_same (matches j.left_key j.right_key) x.0 x.1 j.left j.right y.0 y.1 c.args.change.now.0 c.args.change.now.1 c.in_ok-delta.delta c.in_ok-delta.ensures.moves h.0 h.1 m.0 m.1
