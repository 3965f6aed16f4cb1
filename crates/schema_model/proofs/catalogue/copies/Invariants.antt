use Rattle.std.proofs.Common.{◌≡◌, map, take}
use Rattle.schema_model.specs.States.{plain_database}
use Rattle.schema_model.proofs.catalogue.copies.Given as goal

abbrev pub invariant-loop-database : goal.invariant-loop-database
invariant-loop-database l = map plain_database l.copies.items ≡ map plain_database (take l.database-index l.databases)
