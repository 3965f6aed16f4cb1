use Rattle.std.proofs.Common.{◌≡◌, ◌++◌, take, map}
use Rattle.operator_law.specs.Rows.{cells_at}
use Rattle.unite_op.specs.NamedThings.{rows_behind}
use Rattle.schema_delta.proofs.tuples.push_all_picked.Given as goal

abbrev pub invariant-loop-row : goal.invariant-loop-row
invariant-loop-row l = l.flat.items ≡ l.fn.flat.items ++ rows_behind l.names (map (cells_at l.places.items) (map (λ r. r.now) (take l.row-index l.rows)))
