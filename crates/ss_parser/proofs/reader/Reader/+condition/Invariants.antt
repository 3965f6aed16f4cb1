use Rattle.std.proofs.Common.{◌+◌, ◌*◌, length, map}
use Rattle.std.specs.Prelude.{codes}
use Rattle.view_def.specs.RawConditions.{raw_of}
use Rattle.ss_parser.specs.Terms.{is_key}
use Rattle.ss_parser.specs.Conditions.{unit as unit_phrase}
use Rattle.ss_parser.specs.Conditions.{all as all_phrase}
use Rattle.ss_parser.proofs.ListLoops.{GoesOn}
use Rattle.ss_parser.proofs.reader.Reader.+condition.Given as goal

abbrev pub decreases-unit : goal.decreases-unit
decreases-unit l = 6 * l.levels

abbrev pub decreases-all : goal.decreases-all
decreases-all l = 6 * l.levels + 1

abbrev pub decreases-any : goal.decreases-any
decreases-any l = 6 * l.levels + 2

abbrev pub decreases-negation : goal.decreases-negation
decreases-negation l = 6 * l.levels + 3

abbrev pub decreases-group : goal.decreases-group
decreases-group l = 6 * l.levels + 3

abbrev pub decreases-nested : goal.decreases-nested
decreases-nested l = 6 * l.levels + 4

abbrev pub invariant-all-loop-members : goal.invariant-all-loop-members
invariant-all-loop-members l = GoesOn (is_key (codes "and")) (unit_phrase l.levels) l.fn.self l.self (map raw_of l.members.items)

abbrev pub decreases-all-loop-members : goal.decreases-all-loop-members
decreases-all-loop-members l = length l.self

abbrev pub invariant-any-loop-members : goal.invariant-any-loop-members
invariant-any-loop-members l = GoesOn (is_key (codes "or")) (all_phrase (unit_phrase l.levels)) l.fn.self l.self (map raw_of l.members.items)

abbrev pub decreases-any-loop-members : goal.decreases-any-loop-members
decreases-any-loop-members l = length l.self
