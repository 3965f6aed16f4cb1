use Rattle.std.proofs.Common.{◌≡◌, take}
use Rattle.engine_tests.proofs.facts.copies.Given as goal

abbrev pub invariant-loop-row : goal.invariant-loop-row
invariant-loop-row l = l.copies.items ≡ take l.row-index l.rows
