use Rattle.ss_parser.proofs.ReaderLemmas.{held_start, ahead_start}
use Rattle.ss_parser.proofs.reader.Reader.of.Goals as goal

pub invariant_of-result : goal.invariant_of-result
invariant_of-result c = held_start c.args.bytes.now c.next-ahead.result c.in_ok-tokens.tokens c.next-ahead.new.self c.in_ok-tokens.ensures c.next-ahead.ensures.first c.next-ahead.ensures.left

pub returns : goal.returns
returns c = ahead_start c.args.bytes.now c.next-ahead.result c.in_ok-tokens.tokens c.next-ahead.new.self c.in_ok-tokens.ensures c.next-ahead.ensures.first c.next-ahead.ensures.left
