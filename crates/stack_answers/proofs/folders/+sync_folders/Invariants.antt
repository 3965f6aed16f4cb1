use Rattle.std.proofs.Common.{length}
use Rattle.stack_answers.proofs.folders.+sync_folders.Given as goal

abbrev pub decreases-sync_folders : goal.decreases-sync_folders
decreases-sync_folders g l = length l.levels.now
