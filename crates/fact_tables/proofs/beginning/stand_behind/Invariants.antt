use Rattle.std.proofs.Common.{◌≡◌}
use Rattle.fact_tables.proofs.beginning.stand_behind.Given as goal

abbrev pub invariant-loop-place : goal.invariant-loop-place
invariant-loop-place t l = l.facts ≡ l.fn.facts
