use Rattle.std.proofs.Common.{◌≡◌, take, map, ◌++◌}
use Rattle.std.specs.List.{zip}
use Rattle.ss_text.specs.Texts.{Text}
use Rattle.operator_law.specs.Rows.{cells_at}
use Rattle.fold_op.specs.Flat.{entry}
use Rattle.schema_delta.proofs.tuples.push_entries.Given as goal

abbrev pub invariant-loop-k : goal.invariant-loop-k
invariant-loop-k l = l.flat.items ≡ l.fn.flat.items ++ map (λ (e : Text × Text). l.names ++ entry (cells_at l.places l.row) e.0 e.1) (take l.k (zip l.attributes l.row))
