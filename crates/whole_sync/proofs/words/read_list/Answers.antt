use Rattle.std.proofs.Common.{[], ◌∷◌, ◌++◌, codes, refl, ◌∙◌}
use Rattle.std.proofs.lemmas.Result.{err_from_is_err_and}
use Rattle.whole_sync.specs.Lists.{moves_words, list_words}
use Rattle.whole_sync.proofs.ListLemmas.{read_on}
use Rattle.whole_sync.proofs.SameListLemmas.{words_are, left_of_all, left_more, left_ends}
use Rattle.whole_sync.proofs.words.read_list.Goals as goal

pub returns-in_err-words-clause-failed : goal.returns-in_err-words-clause-failed
returns-in_err-words-clause-failed c = λ is ms list.
    let p = err_from_is_err_and c.from_residual.result c.from_residual.ensures.1 in
    c.in_err-words.ensures.failed (cc (p.1, p.2)) (list_words ms) list.words list.text_is

pub returns-in_err-rest-clause-failed : goal.returns-in_err-rest-clause-failed
returns-in_err-rest-clause-failed c = λ is ms list.
    let p = err_from_is_err_and c.from_residual-in_err-rest.result c.from_residual-in_err-rest.ensures.1 in
    let are = c.as_slice.ensures.value ∙ words_are c.in_ok-words.words.items c.args.text.now ms c.in_ok-words.ensures.joined c.in_ok-words.ensures.words list in
    c.in_err-rest.ensures.failed (cc (p.1, p.2)) (moves_words ms ++ codes "end" ∷ []) are

pub returns-in_err-one-clause-failed : goal.returns-in_err-one-clause-failed
returns-in_err-one-clause-failed c = λ is ms list.
    let p = err_from_is_err_and c.from_residual-in_err-one.result c.from_residual-in_err-one.ensures.1 in
    let are = c.as_slice.ensures.value ∙ words_are c.in_ok-words.words.items c.args.text.now ms c.in_ok-words.ensures.joined c.in_ok-words.ensures.words list in
    let left = c.loop-rest.invariant.left ms (left_of_all c.as_slice.result.now c.in_ok-rest.rest.now ms c.in_ok-rest.ensures.ok are) in
    left_ends c.loop-rest.rest.now left.0 left.1 (c.loop-rest-test.ensures.no_end refl) (c.in_err-one.ensures.failed (cc (p.1, p.2)))

pub loop-rest-preserved : goal.loop-rest-preserved
loop-rest-preserved c = record {
  so_far = read_on _ c.loop-rest.rest.now c.in_ok-one.more.now c.loop-rest.moves.items c.push.new.self.items c.in_ok-one.one c.loop-rest.invariant.so_far c.in_ok-one.ensures.ok c.in_ok-push.ensures.items;
  left = λ ms is. let left = c.loop-rest.invariant.left ms is in left_more c.loop-rest.rest.now c.in_ok-one.more.now c.in_ok-one.one left.0 left.1 c.in_ok-one.ensures.ok;
}
