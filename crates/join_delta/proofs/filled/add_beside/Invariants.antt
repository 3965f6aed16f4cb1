use Rattle.std.proofs.Common.{length, slice_index_or, [], ◌++◌}
use Rattle.join_delta.specs.Joined.{matches}
use Rattle.join_delta.specs.Walks.{rest_from}
use Rattle.join_delta.proofs.Walk.{IsWalk}
use Rattle.join_delta.proofs.filled.add_beside.Given as goal

abbrev pub invariant-loop-at : goal.invariant-loop-at
invariant-loop-at l =
    IsWalk (matches l.positions (slice_index_or l.kept.keys 0 []) l.row) l.kept.live (λ y. l.row ++ y) l.initial.out.items l.out.items l.at

abbrev pub decreases-loop-at : goal.decreases-loop-at
decreases-loop-at l = length (rest_from (matches l.positions (slice_index_or l.kept.keys 0 []) l.row) l.kept.live l.at)
