use Rattle.std.proofs.Common.{arith}
use Rattle.outside.proofs.EffectLemmas.{piece_written, piece_within}
use Rattle.outside.proofs.acts.print.Goals as goal

pub loop-at-preserved : goal.loop-at-preserved
loop-at-preserved g c =
    let step = c.in-Ok.ensures in
    record {
      within = piece_within c.args.bytes.now c.loop-at.at c.in-Ok.n step.count c.loop-at-test.true;
      written = piece_written c.args.bytes.now c.loop-at.at c.in-Ok.n _ _ _ step.held c.loop-at.invariant.written;
      steady = omega (arith, step.steady, c.loop-at.invariant.steady);
    }
