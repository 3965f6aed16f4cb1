use Rattle.std.proofs.Common.{◌≡◌, take}
use Rattle.csv_catalog.specs.Saved.{folders_made}
use Rattle.csv_catalog.proofs.save.folders_made.Given as goal

abbrev pub invariant-loop-db : goal.invariant-loop-db
invariant-loop-db l = l.edits.items ≡ folders_made (take l.db-index l.databases)
