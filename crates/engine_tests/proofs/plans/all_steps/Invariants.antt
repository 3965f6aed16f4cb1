use Rattle.plan_translate.specs.Plans.{PlanStands}
use Rattle.engine_tests.proofs.plans.all_steps.Given as goal

abbrev pub invariant-loop-moved : goal.invariant-loop-moved
invariant-loop-moved g l = PlanStands l.catalogue.databases l.plan
