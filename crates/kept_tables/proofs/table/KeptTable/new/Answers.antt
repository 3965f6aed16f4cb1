use Rattle.std.proofs.Common.{arith}
use Rattle.flow_law.proofs.TableLemmas.{empty_in_order}
use Rattle.kept_tables.proofs.table.KeptTable.new.Goals as goal

pub invariant_of-result : goal.invariant_of-result
invariant_of-result c = rw c.new-2.ensures (record {
  table = rw c.new.ensures.items empty_in_order;
  columns_room = omega (arith, c.new.ensures.len);
  cells_room = omega (arith, c.new.ensures.len);
})
