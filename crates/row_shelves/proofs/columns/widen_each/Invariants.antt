use Rattle.std.proofs.Common.{◌≡◌, ℕ, map}
use Rattle.std.specs.List.{All, AllWithin}
use Rattle.row_shelves.specs.Stocks.{Has}
use Rattle.row_shelves.specs.Shelves.{same_shelf, on_shelf}
use Rattle.row_shelves.proofs.columns.widen_each.Given as goal

abbrev pub invariant-loop-shelf : goal.invariant-loop-shelf
invariant-loop-shelf l = record {
  same : map same_shelf l.shelf-items ≡ map same_shelf l.fn.shelves.items;
  grows : (n : ℕ) → All (λ s. All (Has n) (on_shelf s)) l.fn.shelves.items → All (λ s. All (Has n) (on_shelf s)) l.shelf-items;
  room : AllWithin (λ s. All (Has l.bound) (on_shelf s)) l.shelf-items 0 l.shelf-index;
}
