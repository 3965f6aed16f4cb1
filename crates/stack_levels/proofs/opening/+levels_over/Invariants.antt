use Rattle.std.proofs.Common.{vec_len}
use Rattle.stack_levels.proofs.opening.+levels_over.Given as goal

abbrev pub decreases-levels_over : goal.decreases-levels_over
decreases-levels_over g l = vec_len l.definitions
