use Rattle.std.proofs.Common.{◌≡◌, ◌<◌, ap, sym, length, arith}
use Rattle.ss_text.specs.Texts.{Row}
use Rattle.ss_text.proofs.GroupLemmas.{all_weaker}
use Rattle.flow_law.specs.Tables.{table_value}
use Rattle.flow_law.proofs.TableLemmas.{column_removed, column_removed_in_order}
use Rattle.kept_tables.specs.Kept.{kept_table}
use Rattle.kept_tables.proofs.table.KeptTable.remove_column.Goals as goal

pub remove_column-requires : goal.remove_column-requires
remove_column-requires c =
    let there = rw (← c.self.view_is) at c.in-Ok.ensures.found in
    let columns = c.self.inside.columns.items in
    all_weaker (λ (r : Row × Row). length r.1 ≡ length columns) (λ (r : Row × Row). c.in-Ok.place < length r.1) (λ r e. omega (arith, e, there.within)) c.self.inside.rows.rows c.self.invariant.table.cells

pub invariant_of-self : goal.invariant_of-self
invariant_of-self c =
    let there = rw (← c.self.view_is) at c.in-Ok.ensures.found in
    rw c.remove_column.ensures (record {
      table = rw c.remove.ensures.items (column_removed_in_order (table_value c.self.inside.columns.items c.self.inside.rows.rows) c.in-Ok.place c.self.invariant.table there.within);
      columns_room = omega (arith, c.remove.ensures.len, c.remove.ensures.capacity, c.self.invariant.columns_room);
      cells_room = omega (arith, c.remove.ensures.len, c.self.invariant.cells_room);
    })

pub returns : goal.returns
returns c =
    let there = rw (← c.self.view_is) at c.in-Ok.ensures.found in
    rw (← c.self.view_is, c.remove.ensures.items, c.remove_column.ensures)
    (ap (λ t. kept_table t c.self.inside.rows.coming c.self.inside.coming) (sym (column_removed (table_value c.self.inside.columns.items c.self.inside.rows.rows) c.args.column.now c.in-Ok.place c.self.invariant.table there)))
