use Rattle.std.proofs.Common.{◌∙◌, sym, ap}
use Rattle.flow_law.specs.Tables.{table_value}
use Rattle.flow_law.specs.KeyedRows.{row_values}
use Rattle.flow_law.proofs.RowLemmas.{seen_removed}
use Rattle.flow_law.proofs.TableLemmas.{row_removed, row_removed_in_order}
use Rattle.flow_law.proofs.table.Table.remove_row.Goals as goal

pub invariant_of-self : goal.invariant_of-self
invariant_of-self c =
    let rows = c.self.inside.rows.items in
    rw (c.remove.ensures.items, seen_removed rows c.in-Ok.place) (row_removed_in_order (table_value c.self.inside.columns.items (row_values rows)) c.in-Ok.place c.self.invariant)

pub returns : goal.returns
returns c =
    let rows = c.self.inside.rows.items in
    let there = rw (← c.self.view_is) at c.in-Ok.ensures.found in
    rw (← c.self.view_is) (ap (table_value c.self.inside.columns.items) (ap row_values c.remove.ensures.items ∙ seen_removed rows c.in-Ok.place)
    ∙ sym (row_removed (table_value c.self.inside.columns.items (row_values rows)) c.args.key.now c.in-Ok.place c.self.invariant there))
