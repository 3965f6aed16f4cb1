use Rattle.std.proofs.Common.{inl, refl}
use Rattle.std.proofs.lemmas.Result.{err_from_is_err_and}
use Rattle.whole_sync.proofs.ListingLemmas.{listed_words}
use Rattle.whole_sync.proofs.PutLemmas.{put_aside, unprepared}
use Rattle.whole_sync.proofs.WholeLemmas.{unchanged_aside, unchanged_taken}
use Rattle.whole_sync.proofs.sync.prepare.Goals as goal

pub returns-in_err-put_all-clause-err : goal.returns-in_err-put_all-clause-err
returns-in_err-put_all-clause-err g c =
    let p = err_from_is_err_and c.from_residual.result c.from_residual.ensures.1 in
    rw p.1 (inl c.in_err-put_all.ensures.err)

pub returns-in_err-put_all-clause-no_memory : goal.returns-in_err-put_all-clause-no_memory
returns-in_err-put_all-clause-no_memory g c = λ _. unchanged_aside _ _ c.in_err-put_all.ensures.err

pub returns-in_err-moves-clause-err : goal.returns-in_err-moves-clause-err
returns-in_err-moves-clause-err g c =
    let p = err_from_is_err_and c.from_residual-in_err-moves.result c.from_residual-in_err-moves.ensures.1 in
    rw p.1 (inl (put_aside _ _ _ _ c.in_ok-put_all.ensures.ok))

pub returns-in_err-moves-clause-no_memory : goal.returns-in_err-moves-clause-no_memory
returns-in_err-moves-clause-no_memory g c = λ _. unchanged_aside _ _ (put_aside _ _ _ _ c.in_ok-put_all.ensures.ok)

pub returns-in_err-list-clause-err : goal.returns-in_err-list-clause-err
returns-in_err-list-clause-err g c =
    let p = err_from_is_err_and c.from_residual-in_err-list.result c.from_residual-in_err-list.ensures.1 in
    rw p.1 (inl (put_aside _ _ _ _ c.in_ok-put_all.ensures.ok))

pub returns-in_err-list-clause-no_memory : goal.returns-in_err-list-clause-no_memory
returns-in_err-list-clause-no_memory g c = λ _. unchanged_aside _ _ (put_aside _ _ _ _ c.in_ok-put_all.ensures.ok)

pub returns-in-Ok-clause-ok : goal.returns-in-Ok-clause-ok
returns-in-Ok-clause-ok g c = record {
  before = g.D.FileCalls.known c.put_all.new.disk;
  put = c.in_ok-put_all.ensures.ok;
  moves_are = rw c.as_slice-names.ensures.value at c.in_ok-moves.ensures.ok;
  text = c.in_ok-list.list;
  list = rw c.as_slice-listed.ensures.value at c.in_ok-list.ensures.ok;
  done = rw c.as_slice-text.ensures at c.in-Ok.ensures.ok;
}

pub returns-then-take_back-clause-err : goal.returns-then-take_back-clause-err
returns-then-take_back-clause-err g c =
    unprepared _ _ _ _ c.in_ok-list.list _ _ _ _ c.in_ok-put_all.ensures.ok (rw c.as_slice-names.ensures.value at c.in_ok-moves.ensures.ok) (rw c.as_slice-listed.ensures.value at c.in_ok-list.ensures.ok) (rw c.as_slice-text.ensures at c.in-Err.ensures.err) c.take_back.ensures.taken

pub returns-then-take_back-clause-no_memory : goal.returns-then-take_back-clause-no_memory
returns-then-take_back-clause-no_memory g c = λ _. unchanged_taken _ _ _ _ _ (put_aside _ _ _ _ c.in_ok-put_all.ensures.ok) c.in-Err.ensures.err (c.if-take_back.ensures.gone refl)

pub returns-clause-err : goal.returns-clause-err
returns-clause-err g c =
    unprepared _ _ _ _ c.in_ok-list.list _ _ _ _ c.in_ok-put_all.ensures.ok (rw c.as_slice-names.ensures.value at c.in_ok-moves.ensures.ok) (rw c.as_slice-listed.ensures.value at c.in_ok-list.ensures.ok) (rw c.as_slice-text.ensures at c.in-Err.ensures.err) c.take_back.ensures.taken

pub returns-in_err-list-clause-failed : goal.returns-in_err-list-clause-failed
returns-in_err-list-clause-failed g c = λ is fit.
    let p = err_from_is_err_and c.from_residual-in_err-list.result c.from_residual-in_err-list.ensures.1 in
    absurd (c.in_err-list.ensures.failed (cc (p.1, p.2))
    (rw (c.as_slice-listed.ensures.value, c.in_ok-moves.ensures.ok, c.as_slice-names.ensures.value) (listed_words c.args.edits.now _ fit c.in_ok-put_all.ensures.ok.named)))
