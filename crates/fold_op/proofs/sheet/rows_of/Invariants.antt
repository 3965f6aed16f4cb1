use Rattle.std.proofs.Common.{◌≡◌, ◌++◌, map, length}
use Rattle.schema_model.specs.Placed.{placed_rows}
use Rattle.schema_model.proofs.Walks.{rows_from, IsThere}
use Rattle.fold_op.proofs.sheet.rows_of.Given as goal

abbrev pub invariant-loop-next : goal.invariant-loop-next
invariant-loop-next g l = record {
  walked : map (λ r. r.now) l.rows.items ++ placed_rows (rows_from l.next (g.S.Sheet.placed l.sheet)) ≡ placed_rows (g.S.Sheet.placed l.sheet);
  there : IsThere l.next (g.S.Sheet.placed l.sheet);
}

abbrev pub decreases-loop-next : goal.decreases-loop-next
decreases-loop-next g l = length (rows_from l.next (g.S.Sheet.placed l.sheet))
