use Rattle.std.proofs.Common.{◌≡◌, ◌++◌, length}
use Rattle.schema_model.specs.Placed.{placed_rows}
use Rattle.schema_model.specs.RowsKept.{placed_in}
use Rattle.schema_model.proofs.Walks.{rows_from, IsThere}
use Rattle.schema_model.proofs.held.copies.Given as goal

abbrev pub invariant-loop-next : goal.invariant-loop-next
invariant-loop-next l = record {
  walked : l.copies.items ++ placed_rows (rows_from l.next (placed_in l.rows)) ≡ placed_rows (placed_in l.rows);
  there : IsThere l.next (placed_in l.rows);
}

abbrev pub decreases-loop-next : goal.decreases-loop-next
decreases-loop-next l = length (rows_from l.next (placed_in l.rows))
