use Rattle.std.proofs.Common.{map, arith}
use Rattle.view_def.specs.Query.{query_of}
use Rattle.plan_form.specs.Sources.{seen_link}
use Rattle.plan_form.proofs.Steps.{member_turn}
use Rattle.plan_form.proofs.links.push_equalities.Goals as goal

pub loop-member-preserved : goal.loop-member-preserved
loop-member-preserved c =
    member_turn (query_of c.args.view.now) c.args.left.now c.args.right.now (map seen_link c.args.links.now.items) (map seen_link c.loop-member.links.items) (map seen_link c.push_equality.new.links.items)
    c.members-member-items.result.now c.loop-member.member-index c.member-item.result (omega arith) c.member-item.is c.loop-member.invariant c.in_ok-push_equality.ensures
