use Rattle.std.proofs.Common.{◌≡◌, ◌++◌, take}
use Rattle.unite_op.specs.NamedThings.{rows_behind}
use Rattle.schema_delta.proofs.behind.push_rows.Given as goal

abbrev pub invariant-loop-row : goal.invariant-loop-row
invariant-loop-row l = l.flat.items ≡ l.fn.flat.items ++ rows_behind l.names (take l.row-index l.rows)
