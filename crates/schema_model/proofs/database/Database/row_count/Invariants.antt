use Rattle.std.proofs.Common.{◌≡◌, ◌+◌, drop}
use Rattle.schema_model.proofs.RestCounted.{rows_of_all}
use Rattle.schema_model.proofs.database.Database.row_count.Given as goal

abbrev pub invariant-loop-relation : goal.invariant-loop-relation
invariant-loop-relation l = l.rows + rows_of_all (drop l.relation-index l.relations) ≡ rows_of_all l.relations
