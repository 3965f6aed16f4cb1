use Rattle.std.proofs.Common.{arith, List, ℕ, sym, subst, []}
use Rattle.std.proofs.lemmas.Result.{err_from_is_err_and}
use Rattle.std.proofs.lemmas.List.{take_all}
use Rattle.outside.specs.declared.edit.Edit.{Edit}
use Rattle.whole_sync.specs.Replacing.{PutAll}
use Rattle.whole_sync.proofs.PutLemmas.{put_starts, put_more, put_aside, aside_then}
use Rattle.whole_sync.proofs.sync.put_all.Goals as goal

pub loop-edit-init : goal.loop-edit-init
loop-edit-init g c =
    let known = g.D.FileCalls.known c.args.disk.now in
    record { put = subst (λ (ns : List (List ℕ)). PutAll [] ns known known) (sym c.requires) (put_starts known); steady = omega arith }

pub loop-edit-preserved : goal.loop-edit-preserved
loop-edit-preserved g c =
    let did = c.in_ok-put_one.ensures.ok in
    record {
      put = put_more c.args.edits.now c.loop-edit.edit-index c.edit-item.result _ did.0 _ _ _ _ (omega arith) c.edit-item.is did.1 c.loop-edit.invariant.put did.2;
      steady = omega (arith, c.loop-edit.invariant.steady, c.in_ok-put_one.ensures.steady);
    }

pub returns-in_err-put_one-clause-err : goal.returns-in_err-put_one-clause-err
returns-in_err-put_one-clause-err g c =
    let p = err_from_is_err_and c.from_residual.result c.from_residual.ensures.1 in
    rw p.1 (aside_then _ _ _ (put_aside _ _ _ _ c.loop-edit.invariant.put) c.in_err-put_one.ensures.err)

pub returns-clause-ok : goal.returns-clause-ok
returns-clause-ok g c =
    let known = g.D.FileCalls.known in
    subst (λ (es : List Edit). PutAll es c.loop-edit.beside.items (known c.args.disk.now) (known c.loop-edit.disk)) (take_all c.loop-edit.edit-index c.args.edits.now (omega arith)) c.loop-edit.invariant.put
