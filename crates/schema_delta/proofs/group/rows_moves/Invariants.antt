use Rattle.schema_delta.proofs.OneRowLaw.{RowsWalk}
use Rattle.schema_delta.proofs.group.rows_moves.Given as goal

abbrev pub invariant-loop-change : goal.invariant-loop-change
invariant-loop-change l = RowsWalk l.catalogue.databases l.changes l.spec l.change-index l.delta
