use Rattle.ss_parser.proofs.ReaderLemmas.{held_next, ahead_next}
use Rattle.ss_parser.proofs.reader.Reader.advance.Goals as goal

pub invariant_of-self : goal.invariant_of-self
invariant_of-self c = held_next c.self.inside.bytes.now c.self.inside.ahead c.next-self-inside.result c.self.inside.tokens c.next-self-inside.new.self c.args.self.now c.self.invariant c.self.view_is c.requires c.next-self-inside.ensures.first c.next-self-inside.ensures.left

pub returns : goal.returns
returns c = ahead_next c.self.inside.bytes.now c.self.inside.ahead c.next-self-inside.result c.self.inside.tokens c.next-self-inside.new.self c.args.self.now c.self.invariant c.self.view_is c.requires c.next-self-inside.ensures.first c.next-self-inside.ensures.left
