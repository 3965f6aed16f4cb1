use Rattle.std.proofs.Common.{◌≡◌, take}
use Rattle.csv_catalog.specs.Saved.{those_gone}
use Rattle.csv_catalog.proofs.save.those_gone.Given as goal

abbrev pub invariant-loop-db : goal.invariant-loop-db
invariant-loop-db l = l.gone.items ≡ those_gone l.catalogue.databases (take l.db-index l.databases)
