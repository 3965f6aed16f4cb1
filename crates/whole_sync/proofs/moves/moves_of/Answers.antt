use Rattle.std.proofs.Common.{◌++◌, List, arith}
use Rattle.std.proofs.lemmas.Result.{err_from_is_err_and}
use Rattle.outside.specs.declared.edit.Edit.{Edit}
use Rattle.whole_sync.specs.Listing.{FitsList}
use Rattle.whole_sync.specs.Protocol.{removing}
use Rattle.whole_sync.proofs.DoingLemmas.{one_more}
use Rattle.whole_sync.proofs.ListingLemmas.{all_at}
use Rattle.whole_sync.proofs.moves.moves_of.Goals as goal

pub loop-edit-preserved : goal.loop-edit-preserved
loop-edit-preserved c =
    one_more (λ (es : List Edit). c.loop-edit.moves.items ++ removing es) (λ (es : List Edit). c.push_removing.new.moves.items ++ removing es) c.args.edits.now c.loop-edit.edit-index c.edit-item.result _ (omega arith) c.edit-item.is c.loop-edit.invariant c.in_ok-push_removing.ensures.ok

pub returns-in_err-push_removing-clause-failed : goal.returns-in_err-push_removing-clause-failed
returns-in_err-push_removing-clause-failed c = λ is fit named.
    let p = err_from_is_err_and c.from_residual-in_err-push_removing.result c.from_residual-in_err-push_removing.ensures.1 in
    c.in_err-push_removing.ensures.failed (cc (p.1, p.2)) c.args.edits.now c.in_ok-written.ensures.ok
    (all_at (FitsList c.args.edits.now) c.args.edits.now c.loop-edit.edit-index c.edit-item.result (omega arith) c.edit-item.is fit)
