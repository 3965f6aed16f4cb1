use Rattle.std.proofs.Common.{sym}
use Rattle.whole_sync.proofs.DoingLemmas.{due_done}
use Rattle.whole_sync.proofs.sync.do_due.Goals as goal

pub returns-then-is_due-clause-done : goal.returns-then-is_due-clause-done
returns-then-is_due-clause-done g c = due_done c.args.making c.args.one.now c.do_move.result _ _ (sym c.if-is_due.ensures) c.do_move.ensures.ok c.do_move.ensures.err
