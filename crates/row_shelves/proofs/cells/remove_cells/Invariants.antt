use Rattle.std.proofs.Common.{◌≡◌, ◌++◌, map, take, drop, length}
use Rattle.std.specs.List.{AllWithin}
use Rattle.flow_law.specs.Lines.{without_cell}
use Rattle.row_shelves.specs.Stocks.{changed, HasCell}
use Rattle.row_shelves.proofs.cells.remove_cells.Given as goal

abbrev pub invariant-loop-row : goal.invariant-loop-row
invariant-loop-row l = record {
  done : l.row-items ≡ map (changed (without_cell l.place)) (take l.row-index l.fn.rows.items) ++ drop l.row-index l.fn.rows.items;
  within : AllWithin (HasCell l.place) l.row-items l.row-index (length l.row-items);
}
