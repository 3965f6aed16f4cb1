use Rattle.std.proofs.Common.{◌<◌, ap, ◌∙◌, length, arith}
use Rattle.ss_text.specs.Places.{at_place}
use Rattle.ss_text.proofs.PlaceLemmas.{put_back}
use Rattle.flow_law.specs.Lines.{with_cell_at}
use Rattle.row_shelves.specs.Stocks.{changed}
use Rattle.row_shelves.specs.Shelves.{on_shelf}
use Rattle.row_shelves.proofs.row_shelf.RowShelf.set_cell.Goals as goal

pub returns-clause-items : goal.returns-clause-items
returns-clause-items c =
    let rows = c.self.inside.rows in
    let place = c.args.place in
    let g = changed (with_cell_at c.args.column c.args.value) in
    let lt : place < length rows.items = omega (arith, rows.ok.0, rw (← c.self.view_is) at c.requires.place) in
    put_back rows.items place c.index_mut-row.result.now c.set_cell.new.self g lt c.index_mut-row.ensures.value c.set_cell.ensures
    ∙ ap (λ s. at_place place g (on_shelf s)) c.self.view_is
