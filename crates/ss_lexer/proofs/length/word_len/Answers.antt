use Rattle.std.proofs.Common.{◌∙◌, sym, arith}
use Rattle.std.proofs.lemmas.List.{take_rest}
use Rattle.ss_lexer.proofs.LengthLemmas.{word_len_step}
use Rattle.ss_lexer.proofs.length.word_len.Goals as goal

pub loop-len-preserved : goal.loop-len-preserved
loop-len-preserved c =
    let s = word_len_step c.loop-len.len c.args.bytes.now (rw take_rest at (sym c.goes_on.ensures ∙ c.loop-len-test.true)) in
    record { inside = omega arith; so_far = sym s.0 ∙ c.loop-len.invariant.so_far }
