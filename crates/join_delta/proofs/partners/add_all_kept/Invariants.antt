use Rattle.std.proofs.Common.{◌≡◌, ◌+◌, ◌≤◌, ◌++◌, [], length, take, slice_index_or}
use Rattle.std.specs.List.{flat_map, sum_by}
use Rattle.join_delta.specs.Walks.{rows_of}
use Rattle.join_delta.specs.Partners.{beside, pairs_of}
use Rattle.join_delta.proofs.partners.add_all_kept.Given as goal

abbrev pub invariant-loop-m : goal.invariant-loop-m
invariant-loop-m g l =
    (l.out.items ≡ l.initial.out.items ++ flat_map (pairs_of l.kept_first (slice_index_or l.kept.keys 0 []) l.positions (rows_of l.kept.live)) (take l.m-index l.moves))
    × (l.steps ≤ l.initial.steps + sum_by (λ m. length (beside (slice_index_or l.kept.keys 0 []) l.positions (rows_of l.kept.live) m)) (take l.m-index l.moves))
    × (l.initial.steps ≤ l.steps)
