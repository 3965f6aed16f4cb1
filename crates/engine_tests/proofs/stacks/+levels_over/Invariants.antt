use Rattle.std.proofs.Common.{length}
use Rattle.engine_tests.proofs.stacks.+levels_over.Given as goal

abbrev pub decreases-levels_over : goal.decreases-levels_over
decreases-levels_over g l = length l.views.now
