use Rattle.std.proofs.Common.{◌≡◌}
use Rattle.plan_translate.proofs.Emptied.{emptied}
use Rattle.plan_translate.proofs.walked.keep_left.Given as goal

abbrev pub invariant-loop-side : goal.invariant-loop-side
invariant-loop-side l = l.side-items ≡ emptied l.side-index l.fn.sides.items
