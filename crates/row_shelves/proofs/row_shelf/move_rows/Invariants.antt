use Rattle.std.proofs.Common.{◌≡◌, ◌+◌, ◌++◌}
use Rattle.std.specs.Vec.{vec_len, vec_capacity}
use Rattle.std.specs.Vec.Iter.{drain_items, drain_len, DrainKeeps}
use Rattle.row_shelves.proofs.row_shelf.move_rows.Given as goal

abbrev pub invariant-loop-row : goal.invariant-loop-row
invariant-loop-row l = record {
  items : l.tail.items ++ drain_items l.row-iterator ≡ l.fn.tail.items ++ drain_items l.initial.row-iterator;
  count : vec_len l.tail + drain_len l.row-iterator ≡ vec_len l.fn.tail + drain_len l.initial.row-iterator;
  capacity : vec_capacity l.tail ≡ vec_capacity l.fn.tail;
  keeps : DrainKeeps l.initial.row-iterator l.row-iterator;
}
