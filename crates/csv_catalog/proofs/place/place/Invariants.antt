use Rattle.std.proofs.Common.{◌≡◌, ◌≤◌, length}
use Rattle.csv_catalog.specs.Loaded.{by_name}
use Rattle.csv_catalog.proofs.PlaceLemmas.{Among}
use Rattle.csv_catalog.proofs.place.place.Given as goal

abbrev pub invariant-loop-at : goal.invariant-loop-at
invariant-loop-at l = record {
  among : Among by_name l.fn.relation l.kept.items l.at;
  at : l.at ≤ length l.kept.items;
  same : l.kept ≡ l.fn.kept;
}

abbrev pub decreases-loop-at : goal.decreases-loop-at
decreases-loop-at l = l.at
