use Rattle.std.proofs.Common.{[]}
use Rattle.flow_law.specs.declared.line.TableLine.TheVariants.{RowMinus}
use Rattle.flow_law.specs.Tables.{table_value}
use Rattle.flow_law.proofs.TableLemmas.{line_in_order}
use Rattle.kept_tables.proofs.table.KeptTable.remove_row.Goals as goal

pub invariant_of-self : goal.invariant_of-self
invariant_of-self c = rw c.remove_row.ensures (record {
  table = line_in_order (RowMinus [] c.args.key.now) (table_value c.self.inside.columns.items c.self.inside.rows.rows) c.self.invariant.table (rw (← c.self.view_is) at c.requires);
  columns_room = c.self.invariant.columns_room;
  cells_room = c.self.invariant.cells_room;
})
