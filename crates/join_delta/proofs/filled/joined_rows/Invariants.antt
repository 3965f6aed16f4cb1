use Rattle.std.proofs.Common.{◌≡◌, [], take, slice_index_or}
use Rattle.join_delta.specs.Joined.{matches, joined}
use Rattle.join_delta.specs.Walks.{rows_of}
use Rattle.join_delta.proofs.filled.joined_rows.Given as goal

abbrev pub invariant-loop-row : goal.invariant-loop-row
invariant-loop-row l = l.out.items ≡ joined (matches l.positions (slice_index_or l.kept.keys 0 [])) (take l.row-index l.rows) (rows_of l.kept.live)
