use Rattle.std.proofs.Common.{◌≡◌, ℕ}
use Rattle.std.specs.List.{All, AllWithin}
use Rattle.row_shelves.specs.Stocks.{rows_of, Has}
use Rattle.row_shelves.proofs.cells.widen_rows.Given as goal

abbrev pub invariant-loop-row : goal.invariant-loop-row
invariant-loop-row l = record {
  same : rows_of l.row-items ≡ rows_of l.fn.rows.items;
  grows : (n : ℕ) → All (Has n) l.fn.rows.items → All (Has n) l.row-items;
  room : AllWithin (Has l.bound) l.row-items 0 l.row-index;
}
