use Rattle.view_folder.proofs.HeldLemmas.{label_behind}
use Rattle.view_folder.proofs.held.all_tables.Goals as goal

pub put_table-requires-clause-order : goal.put_table-requires-clause-order
put_table-requires-clause-order c =
    label_behind c.loop-label.all c.in-Some.label c.in-Some.table c.next.new.self c.args.tables.entries (rw c.in-Some.ensures.steps at c.loop-label.invariant) c.into_iter-label-iterator.ensures.into_iter_gives.5
