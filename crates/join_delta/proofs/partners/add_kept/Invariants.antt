use Rattle.std.proofs.Common.{length, slice_index_or, []}
use Rattle.join_delta.specs.Partners.{has_cells, paired}
use Rattle.join_delta.specs.Walks.{rest_from}
use Rattle.join_delta.proofs.Walk.{IsWalk, IsCounted}
use Rattle.join_delta.proofs.partners.add_kept.Given as goal

abbrev pub invariant-loop-at : goal.invariant-loop-at
invariant-loop-at g l =
    IsWalk (has_cells (slice_index_or l.kept.keys 0 []) l.positions l.m.row) l.kept.live (paired l.kept_first l.m) l.initial.out.items l.out.items l.at
    × IsCounted (has_cells (slice_index_or l.kept.keys 0 []) l.positions l.m.row) l.kept.live l.initial.steps l.steps l.at

abbrev pub decreases-loop-at : goal.decreases-loop-at
decreases-loop-at g l = length (rest_from (has_cells (slice_index_or l.kept.keys 0 []) l.positions l.m.row) l.kept.live l.at)
