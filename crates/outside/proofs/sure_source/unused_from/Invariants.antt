use Rattle.std.proofs.Common.{ℕ, length, ◌-◌, ◌≡◌, ◌≤◌, [], drop, slice_index_or}
use Rattle.outside.specs.MemStreams.{begun, current_piece, pieces_after}
use Rattle.outside.proofs.sure_source.unused_from.Given as goal

abbrev pub invariant-loop-piece : goal.invariant-loop-piece
invariant-loop-piece l = record {
  current : current_piece (begun l.at (drop l.piece l.pieces)) ≡ current_piece (begun l.fn.at (drop l.fn.piece l.pieces));
  after : (n : ℕ) → pieces_after n (begun l.at (drop l.piece l.pieces)) ≡ pieces_after n (begun l.fn.at (drop l.fn.piece l.pieces));
  within : l.at ≤ length (slice_index_or l.pieces l.piece []);
  piece : l.piece ≤ length l.pieces;
}

abbrev pub decreases-loop-piece : goal.decreases-loop-piece
decreases-loop-piece l = length l.pieces - l.piece
