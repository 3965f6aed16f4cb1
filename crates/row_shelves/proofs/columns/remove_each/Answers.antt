use Rattle.std.proofs.Common.{◌<◌, length, refl, arith, map}
use Rattle.std.specs.List.{All}
use Rattle.std.proofs.lemmas.List.Elements.{AllWithin-from_all}
use Rattle.flow_law.specs.Lines.{without_cell}
use Rattle.row_shelves.specs.Stocks.{changed, HasCell}
use Rattle.row_shelves.specs.Shelves.{seen_shelf, shelf_changed, on_shelf}
use Rattle.row_shelves.proofs.ElementLemmas.{one_more, rest_kept}
use Rattle.row_shelves.proofs.columns.remove_each.Goals as goal

pub loop-shelf-init : goal.loop-shelf-init
loop-shelf-init c = rw c.deref_mut-shelf-items.ensures.value (record { done = refl; within = AllWithin-from_all (λ s. All (HasCell c.args.place) (on_shelf s)) c.args.shelves.now.items c.requires })

pub loop-shelf-preserved : goal.loop-shelf-preserved
loop-shelf-preserved c =
    let now = c.loop-shelf.shelf-items in
    let i = c.loop-shelf.shelf-index in
    let lt : i < length now = omega arith in
    let same = c.remove_cells.ensures in
    record {
      done = one_more seen_shelf (shelf_changed (changed (without_cell c.args.place))) (map seen_shelf c.args.shelves.now.items) now i c.shelf-item.result c.remove_cells.new.self lt c.loop-shelf.invariant.done (λ j. (same.rows j, same.count j, same.capacity j));
      within = rest_kept (λ s. All (HasCell c.args.place) (on_shelf s)) now i c.remove_cells.new.self c.loop-shelf.invariant.within;
    }
