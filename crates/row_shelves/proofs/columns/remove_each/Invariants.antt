use Rattle.std.proofs.Common.{◌≡◌, ◌++◌, map, take, drop, length}
use Rattle.std.specs.List.{All, AllWithin}
use Rattle.flow_law.specs.Lines.{without_cell}
use Rattle.row_shelves.specs.Stocks.{changed, HasCell}
use Rattle.row_shelves.specs.Shelves.{seen_shelf, shelf_changed, on_shelf}
use Rattle.row_shelves.proofs.columns.remove_each.Given as goal

abbrev pub invariant-loop-shelf : goal.invariant-loop-shelf
invariant-loop-shelf l =
    let old = map seen_shelf l.fn.shelves.items in
    record {
      done : map seen_shelf l.shelf-items ≡ map (shelf_changed (changed (without_cell l.place))) (take l.shelf-index old) ++ drop l.shelf-index old;
      within : AllWithin (λ s. All (HasCell l.place) (on_shelf s)) l.shelf-items l.shelf-index (length l.shelf-items);
    }
