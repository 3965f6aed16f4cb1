use Rattle.std.proofs.Common.{[], ◌∷◌, sym, append-nil}
use Rattle.std.proofs.lemmas.Result.{err_from_is_err_and}
use Rattle.whole_sync.proofs.PutLemmas.{aside_put, aside_put_off, write_put, make_put, remove_put, gone_put}
use Rattle.whole_sync.proofs.sync.put_one.Goals as goal

pub returns-in_err-name-in-Write-clause-err : goal.returns-in_err-name-in-Write-clause-err
returns-in_err-name-in-Write-clause-err g c =
    let p = err_from_is_err_and c.from_residual.result c.from_residual.ensures.1 in
    rw p.1 (aside_put_off _ _ _ _ c.in_err-name-in-Write.ensures.err)

pub returns-in_err-push-in-Write-clause-err : goal.returns-in_err-push-in-Write-clause-err
returns-in_err-push-in-Write-clause-err g c =
    let p = err_from_is_err_and c.from_residual-in_err-push-in-Write.result c.from_residual-in_err-push-in-Write.ensures.1 in
    rw p.1 (aside_put _ _ _ _ _ _ c.in_ok-name-in-Write.ensures.ok)

pub returns-in_ok-push-in-Write-clause-ok : goal.returns-in_ok-push-in-Write-clause-ok
returns-in_ok-push-in-Write-clause-ok g c =
    let put = c.in_ok-name-in-Write in
    (put.name ∷ [], c.in_ok-push-in-Write.ensures.items, rw c.in-Write.is (write_put put.name c.in-Write.folder c.in-Write.file c.in-Write.bytes _ _ put.ensures.word put.ensures.fresh (rw c.as_slice.ensures at put.ensures.ok)))

pub returns-in-MakeFolder-clause-ok : goal.returns-in-MakeFolder-clause-ok
returns-in-MakeFolder-clause-ok g c = rw c.in-MakeFolder.is ([], sym (append-nil _), make_put _ _)

pub returns-in-Remove-clause-ok : goal.returns-in-Remove-clause-ok
returns-in-Remove-clause-ok g c = rw c.in-Remove.is ([], sym (append-nil _), remove_put _ _ _)

pub returns-in-RemoveFolder-clause-ok : goal.returns-in-RemoveFolder-clause-ok
returns-in-RemoveFolder-clause-ok g c = rw c.in-RemoveFolder.is ([], sym (append-nil _), gone_put _ _)
