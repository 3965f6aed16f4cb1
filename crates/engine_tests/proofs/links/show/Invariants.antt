-- The next place is a live row's.
use Rattle.std.proofs.Common.{◌≡◌, ℕ, Some, IsSome}
use Rattle.row_links.specs.Live.{at_place}
use Rattle.engine_tests.proofs.links.show.Given as goal

abbrev pub invariant-loop : goal.invariant-loop
invariant-loop l = (p : ℕ) → l.next ≡ Some p → IsSome (at_place p l.linked.live)
