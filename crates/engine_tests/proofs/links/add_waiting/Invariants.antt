-- As many rows wait as are still to be added.
use Rattle.std.proofs.Common.{◌≡◌, ◌+◌, ◌≤◌, length}
use Rattle.engine_tests.proofs.links.add_waiting.Given as goal

abbrev pub invariant-loop : goal.invariant-loop
invariant-loop l = record { wait : l.count ≤ l.counter + length l.linked.waiting; keys : l.linked.keys ≡ l.fn.linked.keys }
