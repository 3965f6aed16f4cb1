use Rattle.std.proofs.Common.{◌≡◌, take}
use Rattle.unite_op.specs.NamedThings.{rows_behind}
use Rattle.unite_op.proofs.behind.rows_behind.Given as goal

abbrev pub invariant-loop-row : goal.invariant-loop-row
invariant-loop-row l = l.made.items ≡ rows_behind l.names (take l.row-index l.rows)
