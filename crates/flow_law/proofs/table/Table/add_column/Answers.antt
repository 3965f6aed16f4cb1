use Rattle.std.proofs.Common.{sym}
use Rattle.flow_law.specs.Tables.{table_value}
use Rattle.flow_law.specs.KeyedRows.{row_values}
use Rattle.flow_law.proofs.TableLemmas.{column_placed, column_placed_in_order}
use Rattle.flow_law.proofs.table.Table.add_column.Goals as goal

pub invariant_of-self-2 : goal.invariant_of-self-2
invariant_of-self-2 c =
    let there = rw (← c.self.view_is) at c.in-Err.ensures.absent in
    rw (c.in_ok-insert.ensures.items, c.in_ok-column.ensures, c.insert_cells.ensures, c.in_ok-make_room.ensures.same)
    (column_placed_in_order (table_value c.self.inside.columns.items (row_values c.self.inside.rows.items)) c.args.column.now c.in-Err.place c.self.invariant there)

pub returns-clause-ok : goal.returns-clause-ok
returns-clause-ok c =
    let there = rw (← c.self.view_is) at c.in-Err.ensures.absent in
    rw (← c.self.view_is, c.in_ok-insert.ensures.items, c.in_ok-column.ensures, c.insert_cells.ensures, c.in_ok-make_room.ensures.same)
    (sym (column_placed (table_value c.self.inside.columns.items (row_values c.self.inside.rows.items)) c.args.column.now c.in-Err.place there))
