use Rattle.std.proofs.Common.{inl, inr, sym, ◌∙◌}
use Rattle.std.proofs.lemmas.Result.{err_from_is_err_and}
use Rattle.whole_sync.proofs.sync.finish_list.Goals as goal

pub returns-in_err-list-clause-finished : goal.returns-in_err-list-clause-finished
returns-in_err-list-clause-finished g c =
    let p = err_from_is_err_and c.from_residual.result c.from_residual.ensures.1 in
    rw p.1 (λ k e. inl (c.in_err-list.ensures.same, tt))

pub returns-in_err-found-in-Some-clause-finished : goal.returns-in_err-found-in-Some-clause-finished
returns-in_err-found-in-Some-clause-finished g c =
    let p = err_from_is_err_and c.from_residual-in_err-found-in-Some.result c.from_residual-in_err-found-in-Some.ensures.1 in
    rw p.1 (λ k e. inl (c.in_ok-list.ensures.same, tt))

pub returns-in-None-clause-finished : goal.returns-in-None-clause-finished
returns-in-None-clause-finished g c = λ k e. inl (c.in_ok-list.ensures.same, sym (c.in_ok-list.ensures.told k e) ∙ c.in-None.is)

pub returns-in_ok-found-in-Some-clause-finished : goal.returns-in_ok-found-in-Some-clause-finished
returns-in_ok-found-in-Some-clause-finished g c = λ k e.
    inr (c.in-Some.text, c.in_ok-found-in-Some.found.items, sym (c.in_ok-list.ensures.told k e) ∙ c.in-Some.is, rw c.as_slice-bytes.ensures at c.in_ok-found-in-Some.ensures.ok, rw (c.as_slice-listed.ensures.value, c.in_ok-list.ensures.same) at c.finish.ensures.done)
