use Rattle.std.proofs.Common.{ℕ}
use Rattle.std.specs.List.{All, AllWithin}
use Rattle.row_shelves.specs.Blanks.{IsNewRow}
use Rattle.row_shelves.proofs.rows.widen_cells.Given as goal

abbrev pub invariant-loop-cells : goal.invariant-loop-cells
invariant-loop-cells l = record {
  grows : (n : ℕ) → All (IsNewRow n) l.fn.coming.items → All (IsNewRow n) l.cells-items;
  room : (n : ℕ) → All (IsNewRow n) l.fn.coming.items → AllWithin (IsNewRow l.bound) l.cells-items 0 l.cells-index;
}
