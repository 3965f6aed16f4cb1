use Rattle.std.proofs.Common.{length}
use Rattle.view_stack.proofs.stack.+propose_all.Given as goal

abbrev pub decreases-propose_all : goal.decreases-propose_all
decreases-propose_all g l = length l.levels.now
