-- As many rows wait as are still to be added, and all rows together stay.
use Rattle.std.proofs.Common.{◌≡◌, ◌+◌, ◌++◌, length}
use Rattle.row_links.specs.Live.{rows_alone}
use Rattle.row_links.proofs.linked.add_all.Given as goal

abbrev pub invariant-loop : goal.invariant-loop
invariant-loop l = record { wait : l.count ≡ l.counter + length l.linked.waiting; same : rows_alone l.linked.live ++ l.linked.waiting ≡ rows_alone l.fn.linked.live ++ l.fn.linked.waiting }
