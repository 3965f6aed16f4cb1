use Rattle.std.proofs.Common.{length}
use Rattle.view_stack.proofs.stack.+accept_all.Given as goal

abbrev pub decreases-accept_all : goal.decreases-accept_all
decreases-accept_all g l = length l.levels.now
