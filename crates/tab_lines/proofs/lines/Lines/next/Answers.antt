use Rattle.std.proofs.Common.{Ok, arith}
use Rattle.tab_lines.proofs.TakingLemmas.{going_on, not_idle, going_next}
use Rattle.tab_lines.proofs.lines.Lines.next.Goals as goal

pub returns-in-Some-clause-next : goal.returns-in-Some-clause-next
returns-in-Some-clause-next g c = going_next (Ok c.in-Some.next) _ _ _ _ _ _ _ c.loop-next.invariant.going (rw c.in-Some.is at c.in_ok-next.ensures.next) c.in_ok-next.ensures.ended

pub loop-next-preserved : goal.loop-next-preserved
loop-next-preserved g c =
    let needed = rw c.in_default.is at c.in_ok-next.ensures.next in
    record {
      going = going_on _ _ _ _ _ _ _ _ _ _ c.loop-next.invariant.going needed c.in_ok-take.ensures.took;
      idle = λ ready. not_idle _ _ needed.0 (c.loop-next.invariant.idle ready).1 ready;
      steady = omega (arith, c.loop-next.invariant.steady, c.in_ok-take.ensures.steady);
    }
