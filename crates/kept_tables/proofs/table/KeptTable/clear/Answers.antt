use Rattle.std.proofs.Common.{arith}
use Rattle.flow_law.proofs.TableLemmas.{empty_in_order}
use Rattle.kept_tables.proofs.table.KeptTable.clear.Goals as goal

pub invariant_of-self : goal.invariant_of-self
invariant_of-self c = rw c.clear-2.ensures (record {
  table = rw c.clear.ensures.items empty_in_order;
  columns_room = omega (arith, c.clear.ensures.len, c.clear.ensures.capacity, c.self.invariant.columns_room);
  cells_room = omega (arith, c.clear.ensures.len, c.self.invariant.cells_room);
})
