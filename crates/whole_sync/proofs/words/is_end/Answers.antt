use Rattle.std.proofs.Common.{arith, codes, sym, ◌∙◌}
use Rattle.whole_sync.proofs.ListLemmas.{same_word, one_word}
use Rattle.whole_sync.proofs.words.is_end.Goals as goal

pub returns-in-len1-clause-end : goal.returns-in-len1-clause-end
returns-in-len1-clause-end c = λ is.
    one_word c.args.words.now c.last-item.result (codes "end") (omega arith) (omega arith) c.last-item.is
    (same_word c.as_slice.result.now (codes "end") c.last-item.result (sym c.eq.ensures ∙ is) c.as_slice.ensures)
