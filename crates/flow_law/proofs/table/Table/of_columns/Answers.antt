use Rattle.flow_law.proofs.FillLemmas.{no_rows_in_order}
use Rattle.flow_law.proofs.table.Table.of_columns.Goals as goal

pub invariant_of-result : goal.invariant_of-result
invariant_of-result c = rw c.new.ensures.items (no_rows_in_order c.args.columns.items c.requires)
