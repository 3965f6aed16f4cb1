use Rattle.std.proofs.Common.{◌∙◌, arith}
use Rattle.join_delta.proofs.Moved.{adds_more}
use Rattle.join_delta.proofs.side.add_all.Goals as goal

pub loop-turn-preserved : goal.loop-turn-preserved
loop-turn-preserved c =
    let m = adds_more c.loop-turn.kept c.add.new.self c.add.ensures in
    (m.rows ∙ c.loop-turn.invariant.0, omega (arith, m.fewer, c.loop-turn.invariant.1), m.keys ∙ c.loop-turn.invariant.2)
