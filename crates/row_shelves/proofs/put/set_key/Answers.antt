use Rattle.std.proofs.Common.{sym, ◌∙◌, ◌<◌, length, refl}
use Rattle.std.specs.Prelude.{slice_index_or}
use Rattle.std.proofs.lemmas.Bool.{false≢true}
use Rattle.ss_text.proofs.KeyLemmas.{row_order, lacks_any, lacks_for, changed_at}
use Rattle.ss_text.proofs.PlaceLemmas.{map_at_place, each_at}
use Rattle.flow_law.specs.Lines.{with_cell_at}
use Rattle.row_shelves.specs.Stocks.{Stock, stock_key, changed}
use Rattle.row_shelves.specs.Shelves.{on_shelf, all_rows, place_of}
use Rattle.row_shelves.proofs.SameLemmas.{on_shelf_all}
use Rattle.row_shelves.proofs.put.set_key.Goals as goal

pub unreachable-requires : goal.unreachable-requires
unreachable-requires c =
    let rows = all_rows c.args.shelves.now.items in
    let gap = rw c.deref.ensures.value at c.in_default.ensures.absent in
    false≢true (sym (lacks_any row_order stock_key c.args.key.now rows (lacks_for row_order stock_key c.args.key.now rows (place_of c.args.shelves.now.items c.in_default.field-0) gap)) ∙ c.requires.there)

pub set_cell_at-requires-clause-cell : goal.set_cell_at-requires-clause-cell
set_cell_at-requires-clause-cell c =
    let on = rw c.deref.ensures.value at c.in-Ok.ensures.on_shelf in
    let ss = c.args.shelves.now.items in
    let spot = c.in-Ok.spot in
    λ d r. each_at (λ (x : Stock). c.args.column < length x.cells) (on_shelf (slice_index_or ss spot.shelf d)) spot.place r (on.place d)
    (on_shelf_all on_shelf (λ (x : Stock). c.args.column < length x.cells) ss spot.shelf d on.shelf c.requires.cells)

pub returns-clause-rows : goal.returns-clause-rows
returns-clause-rows c =
    let found = rw c.deref.ensures.value at c.in-Ok.ensures.found in
    c.set_cell_at.ensures.rows ∙ sym (changed_at row_order stock_key c.args.key.now (changed (with_cell_at c.args.column c.args.value)) (all_rows c.args.shelves.now.items) (place_of c.args.shelves.now.items c.in-Ok.spot) c.requires.shelves.keys found)

pub returns-clause-shelves : goal.returns-clause-shelves
returns-clause-shelves c =
    let rows = all_rows c.args.shelves.now.items in
    let place = place_of c.args.shelves.now.items c.in-Ok.spot in
    record {
      keys = rw (c.set_cell_at.ensures.rows, map_at_place stock_key (changed (with_cell_at c.args.column c.args.value)) (λ r. refl) rows place) c.requires.shelves.keys;
      each = c.set_cell_at.ensures.shelves;
    }
