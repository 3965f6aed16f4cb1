use Rattle.std.proofs.Common.{◌≡◌, take, map}
use Rattle.schema_model.specs.States.{plain_database}
use Rattle.schema_delta.specs.Flat.{flat}
use Rattle.schema_delta.proofs.rows.flat_rows.Given as goal

abbrev pub invariant-loop-database : goal.invariant-loop-database
invariant-loop-database l = l.rows.items ≡ flat (map plain_database (take l.database-index l.database-items)) l.spec
