use Rattle.std.proofs.Common.{◌≡◌}
use Rattle.schema_model.specs.States.{plain_databases}
use Rattle.schema_model.proofs.group.settle_at.Given as goal

abbrev pub invariant-loop-db : goal.invariant-loop-db
invariant-loop-db l = plain_databases l.databases.items ≡ plain_databases l.fn.databases.items
