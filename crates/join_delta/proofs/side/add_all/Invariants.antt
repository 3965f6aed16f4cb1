use Rattle.std.proofs.Common.{◌≡◌, ◌+◌, ◌++◌, length}
use Rattle.join_delta.specs.Walks.{rows_of}
use Rattle.join_delta.proofs.side.add_all.Given as goal

abbrev pub invariant-loop-turn : goal.invariant-loop-turn
invariant-loop-turn l =
    (rows_of l.kept.live ++ l.kept.waiting ≡ rows_of l.initial.kept.live ++ l.initial.kept.waiting)
    × (length l.kept.waiting + l._turn ≡ l.count) × (l.kept.keys ≡ l.initial.kept.keys)
