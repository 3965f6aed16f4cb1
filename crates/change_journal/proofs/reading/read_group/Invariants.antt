use Rattle.std.proofs.Common.{◌≡◌, length}
use Rattle.change_journal.specs.Spelled.{group_of}
use Rattle.change_journal.proofs.GroupLemmas.{behind}
use Rattle.change_journal.proofs.reading.read_group.Given as goal

abbrev pub invariant-loop-line : goal.invariant-loop-line
invariant-loop-line l = behind l.changes.items l.rest ≡ group_of l.text

abbrev pub decreases-loop-line : goal.decreases-loop-line
decreases-loop-line l = length l.rest
