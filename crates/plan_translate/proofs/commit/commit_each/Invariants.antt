use Rattle.std.proofs.Common.{◌≡◌, ◌++◌, List, length}
use Rattle.plan_translate.proofs.Each.{Pair, MovedFrom}
use Rattle.plan_translate.proofs.commit.commit_each.Given as goal

abbrev pub invariant-loop-last : goal.invariant-loop-last
invariant-loop-last l = record {
  left : (rest : List Pair) × (l.left.items ++ rest ≡ l.fn.ready.items);
  moved : MovedFrom l.fn.joins.items l.fn.ready.items l.joins.items (length l.left.items);
}

abbrev pub decreases-loop-last : goal.decreases-loop-last
decreases-loop-last l = length l.left.items
