use Rattle.std.proofs.Common.{arith}
use Rattle.std.proofs.lemmas.Result.{err_from_is_err_and}
use Rattle.whole_sync.proofs.ListLemmas.{written_start, written_more}
use Rattle.whole_sync.proofs.ListingLemmas.{words_at}
use Rattle.whole_sync.proofs.words.list_text.Goals as goal

pub loop-one-init : goal.loop-one-init
loop-one-init c = written_start _ _ _ c.new-text.ensures.items c.in_ok-put_word.ensures.text c.in_ok-put_word.ensures.word

pub loop-one-preserved : goal.loop-one-preserved
loop-one-preserved c = written_more c.args.moves.now c.loop-one.one-index c.one-item.result _ _ (omega arith) c.one-item.is c.loop-one.invariant c.in_ok-put_move.ensures.text c.in_ok-put_move.ensures.words

pub returns-in_err-put_move-clause-failed : goal.returns-in_err-put_move-clause-failed
returns-in_err-put_move-clause-failed c = λ is all.
    let p = err_from_is_err_and c.from_residual-in_err-put_move.result c.from_residual-in_err-put_move.ensures.1 in
    c.in_err-put_move.ensures.failed (cc (p.1, p.2)) (words_at c.args.moves.now c.loop-one.one-index c.one-item.result (omega arith) c.one-item.is all)
