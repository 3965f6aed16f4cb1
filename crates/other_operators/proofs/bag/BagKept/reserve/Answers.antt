use Rattle.std.proofs.Common.{sym, ◌∙◌}
use Rattle.other_operators.proofs.BagWaits.{ready_for}
use Rattle.other_operators.proofs.bag.BagKept.reserve.Goals as goal

pub invariant_of-self-2 : goal.invariant_of-self-2
invariant_of-self-2 c = record {
  ready = λ w is.
      ready_for c.made_ready.new.counts (record { of = c.of-of.result; counts = c.in_ok-counts.counts }) w c.deref.result.now is
      (c.of-of.ensures ∙ sym (c.deref.ensures.value ∙ c.change.view_is)) c.in_ok-counts.ensures.ready c.in_ok-counts.ensures.room;
}
