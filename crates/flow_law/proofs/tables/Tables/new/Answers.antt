use Rattle.flow_law.proofs.LabelLemmas.{none_in_order}
use Rattle.flow_law.proofs.tables.Tables.new.Goals as goal

pub invariant_of-result : goal.invariant_of-result
invariant_of-result c = rw c.new.ensures.items none_in_order
