use Rattle.std.proofs.Common.{◌≡◌, length, take}
use Rattle.row_shelves.specs.Shelves.{all_rows}
use Rattle.load_run.proofs.size.row_count.Given as goal

-- the rows of the shelves before this one
abbrev pub invariant-loop-shelf : goal.invariant-loop-shelf
invariant-loop-shelf l = l.count ≡ length (all_rows (take l.shelf-index l.shelves))
