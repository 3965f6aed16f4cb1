use Rattle.std.proofs.Common.{◌≡◌, ◌++◌, take, map}
use Rattle.std.specs.List.{flat_map}
use Rattle.fold_op.specs.Flat.{entries}
use Rattle.unite_op.specs.NamedThings.{rows_behind}
use Rattle.schema_delta.proofs.tuples.push_all_folded.Given as goal

abbrev pub invariant-loop-row : goal.invariant-loop-row
invariant-loop-row l = l.flat.items ≡ l.fn.flat.items ++ rows_behind l.names (flat_map (entries l.places.items l.attributes) (map (λ r. r.now) (take l.row-index l.rows)))
