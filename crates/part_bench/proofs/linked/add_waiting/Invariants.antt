-- As many rows wait as are still to be added.
use Rattle.std.proofs.Common.{◌+◌, ◌≤◌, length}
use Rattle.part_bench.proofs.linked.add_waiting.Given as goal

abbrev pub invariant-loop : goal.invariant-loop
invariant-loop l = l.count ≤ l.counter + length l.linked.waiting
