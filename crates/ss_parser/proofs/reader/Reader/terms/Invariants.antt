use Rattle.std.proofs.Common.{length}
use Rattle.std.specs.Prelude.{codes}
use Rattle.ss_parser.specs.Terms.{is_sign}
use Rattle.ss_parser.specs.Terms.{a_term}
use Rattle.ss_parser.proofs.ListLoops.{GoesOn}
use Rattle.ss_parser.proofs.reader.Reader.terms.Given as goal

abbrev pub invariant-loop-all : goal.invariant-loop-all
invariant-loop-all l = GoesOn (is_sign (codes ",")) a_term l.fn.self l.self l.all.items

abbrev pub decreases-loop-all : goal.decreases-loop-all
decreases-loop-all l = length l.self
