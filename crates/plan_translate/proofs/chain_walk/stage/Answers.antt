use Rattle.plan_translate.proofs.ChainStages.{net_of_join}
use Rattle.plan_translate.proofs.chain_walk.stage.Goals as goal

pub returns-clause-next : goal.returns-clause-next
returns-clause-next g c = net_of_join c.args.join.now c.args.left c.args.right c.in_ok-joined.joined c.in_ok-next.next c.in_ok-joined.ensures.moves c.in_ok-next.ensures.same
