use Rattle.std.proofs.Common.{length}
use Rattle.ss_print.proofs.level_lines.+line_count.Given as goal

abbrev pub decreases-line_count : goal.decreases-line_count
decreases-line_count l = length l.all.now
