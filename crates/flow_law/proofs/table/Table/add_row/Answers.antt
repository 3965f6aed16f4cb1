use Rattle.std.proofs.Common.{◌≡◌, ◌∙◌, sym, length, [], replicate}
use Rattle.std.proofs.lemmas.List.{length-replicate}
use Rattle.flow_law.specs.Tables.{table_value}
use Rattle.flow_law.specs.KeyedRows.{row_values}
use Rattle.flow_law.proofs.RowLemmas.{seen_inserted}
use Rattle.flow_law.proofs.TableLemmas.{row_placed, row_placed_in_order}
use Rattle.flow_law.proofs.table.Table.add_row.Goals as goal

pub invariant_of-self-2 : goal.invariant_of-self-2
invariant_of-self-2 c =
    let rows = c.self.inside.rows.items in
    let columns = c.self.inside.columns.items in
    let there = rw (← c.self.view_is) at c.in-Err.ensures.absent in
    let count : c.len.result ≡ length columns = c.len.ensures ∙ c.self.inside.columns.ok.0 in
    rw (c.in_ok-insert.ensures.items, seen_inserted rows c.in-Err.place c.in_ok-row.row, c.in_ok-row.ensures, count)
    (row_placed_in_order (table_value columns (row_values rows)) c.args.key.now (replicate (length columns) []) c.in-Err.place c.self.invariant there (length-replicate (length columns) []))

pub returns-clause-ok : goal.returns-clause-ok
returns-clause-ok c =
    let rows = c.self.inside.rows.items in
    let columns = c.self.inside.columns.items in
    let there = rw (← c.self.view_is) at c.in-Err.ensures.absent in
    let count : c.len.result ≡ length columns = c.len.ensures ∙ c.self.inside.columns.ok.0 in
    rw (← c.self.view_is, c.in_ok-insert.ensures.items, seen_inserted rows c.in-Err.place c.in_ok-row.row, c.in_ok-row.ensures, count)
    (sym (row_placed (table_value columns (row_values rows)) c.args.key.now c.in-Err.place there))
