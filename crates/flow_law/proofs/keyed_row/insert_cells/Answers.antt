use Rattle.std.proofs.Common.{◌<◌, ◌≤◌, length, refl, arith}
use Rattle.std.proofs.lemmas.List.Elements.{AllWithin-from_all}
use Rattle.flow_law.specs.KeyedRows.{row_values, HasRoom}
use Rattle.flow_law.specs.Lines.{with_empty_cell}
use Rattle.flow_law.specs.declared.keyed_row.KeyedRow.{KeyedRow}
use Rattle.flow_law.proofs.RowLemmas.{one_row_more, rest_kept, seen_rows}
use Rattle.flow_law.proofs.keyed_row.insert_cells.Goals as goal

pub loop-row-init : goal.loop-row-init
loop-row-init c =
    let rows = c.args.rows.now.items in
    rw c.deref_mut-row-items.ensures.value (record {
      done = refl;
      room = AllWithin-from_all HasRoom rows c.requires.room;
      within = seen_rows (λ r. c.args.place ≤ length r.1) rows c.requires.within;
    })

pub loop-row-preserved : goal.loop-row-preserved
loop-row-preserved c =
    let now = c.loop-row.row-items in
    let i = c.loop-row.row-index in
    let lt : i < length now = omega arith in
    record {
      done = one_row_more (with_empty_cell c.args.place) (row_values c.args.rows.now.items) now i c.row-item.result c.insert_cell.new.self lt c.loop-row.invariant.done c.insert_cell.ensures;
      room = rest_kept HasRoom now i c.insert_cell.new.self c.loop-row.invariant.room;
      within = rest_kept (λ (r : KeyedRow). c.args.place ≤ length r.cells.items) now i c.insert_cell.new.self c.loop-row.invariant.within;
    }
