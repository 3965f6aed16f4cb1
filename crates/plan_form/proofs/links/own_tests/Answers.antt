use Rattle.std.proofs.Common.{arith}
use Rattle.plan_form.proofs.Steps.{own_turn}
use Rattle.plan_form.proofs.links.own_tests.Goals as goal

pub loop-link-preserved : goal.loop-link-preserved
loop-link-preserved c = own_turn c.loop-link.tests.items c.push_own.new.tests.items c.args.links.now c.loop-link.link-index c.link-item.result (omega arith) c.link-item.is c.loop-link.invariant c.in_ok-push_own.ensures
