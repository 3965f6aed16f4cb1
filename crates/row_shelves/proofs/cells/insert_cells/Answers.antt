use Rattle.std.proofs.Common.{◌<◌, length, refl, arith}
use Rattle.std.proofs.lemmas.List.Elements.{AllWithin-from_all}
use Rattle.flow_law.specs.Lines.{with_empty_cell}
use Rattle.row_shelves.specs.Stocks.{changed, HasSpace}
use Rattle.row_shelves.proofs.ElementLemmas.{one_row_more, rest_kept}
use Rattle.row_shelves.proofs.cells.insert_cells.Goals as goal

pub loop-row-init : goal.loop-row-init
loop-row-init c = rw c.deref_mut-row-items.ensures.value (record { done = refl; within = AllWithin-from_all (HasSpace c.args.place) c.args.rows.now.items c.requires })

pub loop-row-preserved : goal.loop-row-preserved
loop-row-preserved c =
    let now = c.loop-row.row-items in
    let i = c.loop-row.row-index in
    let lt : i < length now = omega arith in
    record {
      done = one_row_more (changed (with_empty_cell c.args.place)) c.args.rows.now.items now i c.row-item.result c.insert_cell.new.self lt c.loop-row.invariant.done c.insert_cell.ensures;
      within = rest_kept (HasSpace c.args.place) now i c.insert_cell.new.self c.loop-row.invariant.within;
    }
