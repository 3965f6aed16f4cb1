use Rattle.std.proofs.Common.{◌≡◌, take}
use Rattle.csv_catalog.specs.Saved.{pairs_saved}
use Rattle.csv_catalog.proofs.save.pairs_saved.Given as goal

abbrev pub invariant-loop-pair : goal.invariant-loop-pair
invariant-loop-pair l = l.edits.items ≡ pairs_saved l.catalogue.databases (take l.pair-index l.pairs)
