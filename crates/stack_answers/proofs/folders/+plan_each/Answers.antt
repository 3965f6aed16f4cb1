use Rattle.stack_answers.proofs.FolderLemmas.{none_planned, one_planned}
use Rattle.stack_answers.proofs.folders.+plan_each.Goals as goal

pub returns-in_default-clause-planned : goal.returns-in_default-clause-planned
returns-in_default-clause-planned g t c = none_planned _ c.args.levels.now c.args.plans.now.items c.in_default.ensures.cases

pub returns-clause-planned : goal.returns-clause-planned
returns-clause-planned g t c = one_planned _ _ c.args.levels.now c.in-Some.above.now c.in-Some.level.now c.in_ok-plan.plan c.args.plans.now.items _ _ c.in-Some.ensures.cases.0 c.in_ok-plan.ensures.only_read.tree c.in_ok-push.ensures.items c.in_ok-plan.ensures.told c.in_ok-plan_each.ensures.planned
