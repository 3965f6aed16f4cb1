use Rattle.std.proofs.Common.{length}
use Rattle.layer_tests.proofs.plain.+made.Given as goal

abbrev pub decreases-made : goal.decreases-made
decreases-made l = length l.changes.now
