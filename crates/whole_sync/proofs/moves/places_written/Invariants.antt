use Rattle.whole_sync.specs.Listing.{AreWritten}
use Rattle.whole_sync.proofs.moves.places_written.Given as goal

abbrev pub invariant-loop-edit : goal.invariant-loop-edit
invariant-loop-edit l = AreWritten l.edits l.places.keys
