use Rattle.std.proofs.Common.{arith}
use Rattle.std.proofs.lemmas.Result.{err_from_is_err_and}
use Rattle.whole_sync.proofs.DoingLemmas.{doing_starts, each_done, each_off}
use Rattle.whole_sync.proofs.sync.do_all.Goals as goal

pub loop-one-init : goal.loop-one-init
loop-one-init g c = record { done = doing_starts _ _; steady = omega arith }

pub loop-one-preserved : goal.loop-one-preserved
loop-one-preserved g c = record {
  done = each_done c.args.making c.args.moves.now c.loop-one.one-index c.one-item.result _ _ _ _ (omega arith) c.one-item.is c.loop-one.invariant.done c.in_ok-do_due.ensures.done;
  steady = omega (arith, c.loop-one.invariant.steady, c.in_ok-do_due.ensures.steady);
}

pub returns-in_err-do_due-clause-done : goal.returns-in_err-do_due-clause-done
returns-in_err-do_due-clause-done g c =
    let p = err_from_is_err_and c.from_residual.result c.from_residual.ensures.1 in
    rw p.1 (each_off c.args.making c.args.moves.now c.loop-one.one-index c.one-item.result _ _ _ _ (omega arith) c.one-item.is c.loop-one.invariant.done c.in_err-do_due.ensures.done)
