use Rattle.std.proofs.Common.{sym}
use Rattle.flow_law.specs.Tables.{table_value}
use Rattle.flow_law.specs.KeyedRows.{row_values}
use Rattle.flow_law.proofs.TableLemmas.{column_removed, column_removed_in_order}
use Rattle.flow_law.proofs.table.Table.remove_column.Goals as goal

pub invariant_of-self : goal.invariant_of-self
invariant_of-self c =
    let there = rw (← c.self.view_is) at c.in-Ok.ensures.found in
    rw (c.remove.ensures.items, c.remove_cells.ensures)
    (column_removed_in_order (table_value c.self.inside.columns.items (row_values c.self.inside.rows.items)) c.in-Ok.place c.self.invariant there.within)

pub returns : goal.returns
returns c =
    let there = rw (← c.self.view_is) at c.in-Ok.ensures.found in
    rw (← c.self.view_is, c.remove.ensures.items, c.remove_cells.ensures)
    (sym (column_removed (table_value c.self.inside.columns.items (row_values c.self.inside.rows.items)) c.args.column.now c.in-Ok.place c.self.invariant there))
