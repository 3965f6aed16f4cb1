use Rattle.std.proofs.Common.{◌≡◌}
use Rattle.schema_model.specs.States.{plain_databases}
use Rattle.schema_model.proofs.group.prepare_all.Given as goal

abbrev pub invariant-loop-change : goal.invariant-loop-change
invariant-loop-change l = plain_databases l.databases.items ≡ plain_databases l.fn.databases.items
