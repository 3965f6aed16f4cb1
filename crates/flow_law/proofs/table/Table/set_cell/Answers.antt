use Rattle.std.proofs.Common.{◌∙◌, sym, ap, length, arith}
use Rattle.flow_law.specs.Tables.{table_value}
use Rattle.flow_law.specs.KeyedRows.{row_value, row_values}
use Rattle.flow_law.specs.Lines.{with_cell, with_cell_at}
use Rattle.flow_law.specs.declared.keyed_row.KeyedRow.{KeyedRow}
use Rattle.flow_law.proofs.RowLemmas.{seen_set, seen_within, kept_row_fits}
use Rattle.flow_law.proofs.TableLemmas.{cell_set, cell_set_in_order}
use Rattle.flow_law.proofs.table.Table.set_cell.Goals as goal

pub set_cell-requires : goal.set_cell-requires
set_cell-requires c =
    let rows = c.self.inside.rows.items in
    let row_there = rw (← c.self.view_is) at c.in-Ok-Ok.ensures.found in
    let column_there = rw (← c.self.view_is) at c.in-Ok-Ok.ensures'.found in
    let fits = kept_row_fits c.self.inside.columns.items rows c.in-Ok-Ok.place c.index_mut-row.result.now c.self.invariant (seen_within rows c.args.key.now c.in-Ok-Ok.place row_there) in
    omega (arith, column_there.within, ap (λ (r : KeyedRow). length r.cells.items) c.index_mut-row.ensures.value, fits)

pub invariant_of-self : goal.invariant_of-self
invariant_of-self c =
    let rows = c.self.inside.rows.items in
    let row_there = rw (← c.self.view_is) at c.in-Ok-Ok.ensures.found in
    let lt = seen_within rows c.args.key.now c.in-Ok-Ok.place row_there in
    let set = seen_set rows c.in-Ok-Ok.place c.index_mut-row.result.now c.set_cell.new.self (with_cell_at c.in-Ok-Ok.column c.in_ok-value.value) lt
    (c.set_cell.ensures ∙ ap (λ (r : KeyedRow). with_cell_at c.in-Ok-Ok.column c.in_ok-value.value (row_value r)) c.index_mut-row.ensures.value) in
    rw set (cell_set_in_order (table_value c.self.inside.columns.items (row_values rows)) c.in_ok-value.value c.in-Ok-Ok.place c.in-Ok-Ok.column c.self.invariant row_there.within)

pub returns-clause-ok : goal.returns-clause-ok
returns-clause-ok c =
    let rows = c.self.inside.rows.items in
    let row_there = rw (← c.self.view_is) at c.in-Ok-Ok.ensures.found in
    let column_there = rw (← c.self.view_is) at c.in-Ok-Ok.ensures'.found in
    let lt = seen_within rows c.args.key.now c.in-Ok-Ok.place row_there in
    let set = seen_set rows c.in-Ok-Ok.place c.index_mut-row.result.now c.set_cell.new.self (with_cell_at c.in-Ok-Ok.column c.in_ok-value.value) lt
    (c.set_cell.ensures ∙ ap (λ (r : KeyedRow). with_cell_at c.in-Ok-Ok.column c.in_ok-value.value (row_value r)) c.index_mut-row.ensures.value) in
    rw (← c.self.view_is) (ap (table_value c.self.inside.columns.items) set
    ∙ sym (cell_set (table_value c.self.inside.columns.items (row_values rows)) c.args.key.now c.args.column.now c.in_ok-value.value c.in-Ok-Ok.place c.in-Ok-Ok.column c.self.invariant row_there column_there)
    ∙ ap (λ v. with_cell c.args.key.now c.args.column.now v (table_value c.self.inside.columns.items (row_values rows))) c.in_ok-value.ensures)
