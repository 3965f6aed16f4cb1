use Rattle.std.proofs.Common.{length}
use Rattle.stack_answers.proofs.folders.+plan_each.Given as goal

abbrev pub decreases-plan_each : goal.decreases-plan_each
decreases-plan_each g l = length l.levels.now
