use Rattle.std.proofs.Common.{codes, arith}
use Rattle.view_def.specs.Print.{is_any, is_joined}
use Rattle.view_def.proofs.PrintLemmas.{member_more}
use Rattle.view_def.proofs.print.+condition.Goals as goal

pub push_any-loop-place-preserved : goal.push_any-loop-place-preserved
push_any-loop-place-preserved t c =
    let step = member_more is_any (codes " OR ") _ _ c.args.members.now c.loop-place.place c.index-members-place.result c.loop-place.invariant (omega arith) c.index-members-place.is in
    cc (c.in_ok-push_between.ensures, c.in_ok-push_where.ensures, c.in_ok-push_condition.ensures, c.in_ok-push_where-2.ensures)

pub push_all-loop-place-preserved : goal.push_all-loop-place-preserved
push_all-loop-place-preserved t c =
    let step = member_more is_joined (codes " AND ") _ _ c.args.members.now c.loop-place.place c.index-members-place.result c.loop-place.invariant (omega arith) c.index-members-place.is in
    cc (c.in_ok-push_between.ensures, c.in_ok-push_where.ensures, c.in_ok-push_condition.ensures, c.in_ok-push_where-2.ensures)
