use Rattle.std.proofs.Common.{◌≡◌, ◌<◌, ◌≤◌, ◌-◌, ap, sym, length, arith}
use Rattle.ss_text.specs.Texts.{Row}
use Rattle.ss_text.proofs.GroupLemmas.{all_weaker}
use Rattle.flow_law.specs.Tables.{table_value}
use Rattle.flow_law.proofs.TableLemmas.{column_placed, column_placed_in_order}
use Rattle.kept_tables.specs.Kept.{kept_table}
use Rattle.kept_tables.proofs.table.KeptTable.add_column.Goals as goal

pub insert_column-requires-clause-within : goal.insert_column-requires-clause-within
insert_column-requires-clause-within c =
    let gap = rw (← c.self.view_is) at c.in-Err.ensures.absent in
    let columns = c.self.inside.columns.items in
    all_weaker (λ (r : Row × Row). length r.1 ≡ length columns) (λ (r : Row × Row). c.in-Err.place ≤ length r.1) (λ r e. omega (arith, e, gap.within)) c.self.inside.rows.rows c.self.invariant.table.cells

pub insert_column-requires-clause-room : goal.insert_column-requires-clause-room
insert_column-requires-clause-room c =
    let columns = c.self.inside.columns in
    let coming = rw (← c.self.view_is) at c.requires.coming in
    all_weaker (λ (r : Row × Row). length r.1 ≡ length columns.items) (λ (r : Row × Row). length r.1 < c.self.inside.rows.bound) (λ r e. omega (arith, e, columns.ok.0, coming, c.self.invariant.cells_room)) c.self.inside.rows.rows c.self.invariant.table.cells

pub invariant_of-self : goal.invariant_of-self
invariant_of-self c =
    let gap = rw (← c.self.view_is) at c.in-Err.ensures.absent in
    let coming = rw (← c.self.view_is) at c.requires.coming in
    rw c.insert_column.ensures (record {
      table = rw c.in-Ok.ensures.items (column_placed_in_order (table_value c.self.inside.columns.items c.self.inside.rows.rows) c.args.column c.in-Err.place c.self.invariant.table gap);
      columns_room = omega (arith, c.in-Ok.ensures.len, c.in-Ok.ensures.capacity, coming, c.self.invariant.columns_room);
      cells_room = omega (arith, c.in-Ok.ensures.len, coming, c.self.invariant.cells_room);
    })

pub returns : goal.returns
returns c =
    let gap = rw (← c.self.view_is) at c.in-Err.ensures.absent in
    rw (← c.self.view_is, c.in-Ok.ensures.items, c.insert_column.ensures)
    (ap (λ t. kept_table t c.self.inside.rows.coming (c.self.inside.coming - 1)) (sym (column_placed (table_value c.self.inside.columns.items c.self.inside.rows.rows) c.args.column c.in-Err.place gap)))
