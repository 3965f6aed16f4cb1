use Rattle.std.proofs.Common.{◌∙◌, sym, arith}
use Rattle.std.proofs.lemmas.List.{take_rest}
use Rattle.ss_lexer.proofs.LengthLemmas.{quote_len_other, quote_len_double}
use Rattle.ss_lexer.proofs.length.quote_len.Goals as goal

pub loop-len-preserved-then-first-quote : goal.loop-len-preserved-then-first-quote
loop-len-preserved-then-first-quote c = record {
  inside = omega arith;
  so_far = sym (quote_len_other c.args.quote c.loop-len.len c.args.bytes.now (omega arith) (rw take_rest at c.if-first-quote.true)) ∙ c.loop-len.invariant.so_far;
}

pub loop-len-preserved : goal.loop-len-preserved
loop-len-preserved c = record {
  inside = omega arith;
  so_far = sym (quote_len_double c.args.quote c.loop-len.len c.args.bytes.now (omega arith) (rw take_rest at c.if-first-quote.false) (rw take_rest at c.if-second-quote.true)) ∙ c.loop-len.invariant.so_far;
}
