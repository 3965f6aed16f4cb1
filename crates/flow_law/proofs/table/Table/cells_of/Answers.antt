use Rattle.std.proofs.Common.{[], ◌∙◌, ap, sym}
use Rattle.std.proofs.lemmas.List.{get_or-map}
use Rattle.ss_text.specs.Texts.{Row}
use Rattle.flow_law.specs.Tables.{table_value}
use Rattle.flow_law.specs.KeyedRows.{row_value, row_values}
use Rattle.flow_law.specs.declared.keyed_row.KeyedRow.{KeyedRow}
use Rattle.flow_law.proofs.CellLemmas.{cells_found, cells_missing}
use Rattle.flow_law.proofs.RowLemmas.{seen_within}
use Rattle.flow_law.proofs.table.Table.cells_of.Goals as goal

pub returns-in-Ok : goal.returns-in-Ok
returns-in-Ok c =
    let rows = c.self.inside.rows.items in
    let there = rw (← c.self.view_is) at c.in-Ok.ensures.found in
    rw (← c.self.view_is) (c.deref.ensures.value ∙ ap (λ (r : KeyedRow). r.cells.items) c.index.ensures
    ∙ ap (λ (r : Row × Row). r.1) (sym (get_or-map row_value rows c.in-Ok.place c.index.result.now ([], []) (seen_within rows c.args.key.now c.in-Ok.place there)))
    ∙ sym (cells_found (table_value c.self.inside.columns.items (row_values rows)) c.args.key.now c.in-Ok.place c.self.invariant there))

pub returns-in-Err : goal.returns-in-Err
returns-in-Err c = sym (cells_missing c.args.self.now c.args.key.now c.in-Err.field-0 c.in-Err.ensures.absent)
