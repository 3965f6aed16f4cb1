use Rattle.flow_law.proofs.TableLemmas.{empty_in_order}
use Rattle.flow_law.proofs.table.Table.new.Goals as goal

pub invariant_of-result : goal.invariant_of-result
invariant_of-result c = rw (c.new.ensures.items, c.new-2.ensures.items) empty_in_order
