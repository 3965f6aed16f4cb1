use Rattle.std.proofs.Common.{◌≡◌, ◌++◌, map, take, drop, length}
use Rattle.std.specs.List.{AllWithin}
use Rattle.flow_law.specs.Lines.{with_empty_cell}
use Rattle.row_shelves.specs.Stocks.{changed, HasSpace}
use Rattle.row_shelves.proofs.cells.insert_cells.Given as goal

abbrev pub invariant-loop-row : goal.invariant-loop-row
invariant-loop-row l = record {
  done : l.row-items ≡ map (changed (with_empty_cell l.place)) (take l.row-index l.fn.rows.items) ++ drop l.row-index l.fn.rows.items;
  within : AllWithin (HasSpace l.place) l.row-items l.row-index (length l.row-items);
}
