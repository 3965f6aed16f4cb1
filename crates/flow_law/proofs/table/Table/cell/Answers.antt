use Rattle.std.proofs.Common.{ap, length, arith}
use Rattle.std.proofs.lemmas.List.{length-map}
use Rattle.flow_law.specs.KeyedRows.{row_value}
use Rattle.flow_law.specs.declared.keyed_row.KeyedRow.{KeyedRow}
use Rattle.flow_law.proofs.RowLemmas.{kept_row_fits}
use Rattle.flow_law.proofs.table.Table.cell.Goals as goal

pub index-requires-2 : goal.index-requires-2
index-requires-2 c =
    let asked = rw (← c.self.view_is) at c.requires in
    let rows = c.self.inside.rows.items in
    let fits = kept_row_fits c.self.inside.columns.items rows c.args.place c.index.result.now c.self.invariant (rw (length-map rows row_value) at asked.row_there) in
    omega (arith, asked.column_there, c.index.result.now.cells.ok.0, ap (λ (r : KeyedRow). length r.cells.items) c.index.ensures, fits)
