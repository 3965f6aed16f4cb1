use Rattle.std.proofs.Common.{◌≡◌, ◌++◌, drop}
use Rattle.whole_sync.specs.Listing.{Named}
use Rattle.whole_sync.specs.Protocol.{making}
use Rattle.whole_sync.proofs.moves.making_moves.Given as goal

abbrev pub invariant-loop-edit : goal.invariant-loop-edit
invariant-loop-edit l = record {
  so_far : making l.edits l.beside ≡ l.moves.items ++ making (drop l.edit-index l.edits) l.names;
  named : Named l.edits l.beside → Named (drop l.edit-index l.edits) l.names;
}
