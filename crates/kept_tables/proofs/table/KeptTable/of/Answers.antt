use Rattle.std.proofs.Common.{arith}
use Rattle.kept_tables.proofs.table.KeptTable.of.Goals as goal

pub invariant_of-result : goal.invariant_of-result
invariant_of-result c = rw c.in_ok-widen.ensures.ok (record {
  table = c.requires.table;
  columns_room = omega (arith, c.args.columns.ok.1);
  cells_room = omega (arith, c.len.ensures);
})
