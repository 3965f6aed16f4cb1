use Rattle.std.proofs.Common.{◌≡◌, ◌+◌, length, take}
use Rattle.row_shelves.specs.Shelves.{all_rows}
use Rattle.view_stack.proofs.database.room_behind.Given as goal

abbrev pub invariant-loop-shelf : goal.invariant-loop-shelf
invariant-loop-shelf l = l.left + length (all_rows (take l.shelf-index l.shelves)) ≡ l.room
