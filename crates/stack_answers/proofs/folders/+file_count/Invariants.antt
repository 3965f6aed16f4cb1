use Rattle.std.proofs.Common.{length}
use Rattle.stack_answers.proofs.folders.+file_count.Given as goal

abbrev pub decreases-file_count : goal.decreases-file_count
decreases-file_count l = length l.levels.now
