use Rattle.std.proofs.Common.{◌≡◌, [], replicate}
use Rattle.std.specs.Vec.{vec_len, vec_capacity}
use Rattle.row_shelves.proofs.kept_row.fill.Given as goal

abbrev pub invariant-loop : goal.invariant-loop
invariant-loop l = record {
  cells : l.cells.items ≡ replicate l.counter [];
  count : vec_len l.cells ≡ l.counter;
  room : vec_capacity l.cells ≡ vec_capacity l.fn.cells;
}
