use Rattle.std.proofs.Common.{◌≡◌, [], replicate}
use Rattle.flow_law.proofs.keyed_row.KeyedRow.empty.Given as goal

abbrev pub invariant-loop : goal.invariant-loop
invariant-loop l = l.cells.items ≡ replicate l.counter []
