use Rattle.std.proofs.Common.{length}
use Rattle.ss_print.proofs.level_lines.+push_levels.Given as goal

abbrev pub decreases-push_levels : goal.decreases-push_levels
decreases-push_levels l = length l.all.now
