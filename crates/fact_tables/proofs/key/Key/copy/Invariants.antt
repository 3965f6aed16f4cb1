use Rattle.std.proofs.Common.{◌≡◌, take}
use Rattle.fact_tables.proofs.key.Key.copy.Given as goal

abbrev pub invariant-loop-place : goal.invariant-loop-place
invariant-loop-place l = l.cells.items ≡ take l.place l.self
