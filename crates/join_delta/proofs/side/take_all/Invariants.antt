use Rattle.std.proofs.Common.{◌≡◌, ◌+◌, ℕ, take}
use Rattle.ss_text.specs.Texts.{Row}
use Rattle.operator_law.specs.Bags.{weigh}
use Rattle.join_delta.specs.Walks.{rows_of}
use Rattle.join_delta.proofs.side.take_all.Given as goal

abbrev pub invariant-loop-row : goal.invariant-loop-row
invariant-loop-row l =
    ((f : Row → ℕ) → weigh f (rows_of l.initial.kept.live) ≡ weigh f (rows_of l.kept.live) + weigh f (take l.row-index l.downs.items))
    × (l.kept.keys ≡ l.initial.kept.keys) × (l.kept.waiting ≡ l.initial.kept.waiting)
