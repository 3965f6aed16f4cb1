use Rattle.std.proofs.Common.{◌≡◌, take}
use Rattle.csv_catalog.specs.Saved.{those_there}
use Rattle.csv_catalog.proofs.save.those_there.Given as goal

abbrev pub invariant-loop-db : goal.invariant-loop-db
invariant-loop-db l = l.there.items ≡ those_there l.catalogue.databases (take l.db-index l.databases)
