use Rattle.std.proofs.lemmas.Result.{err_from_is_err_and}
use Rattle.whole_sync.proofs.DoingLemmas.{made, made_off, gone, gone_off, then_does, then_breaks, then_last}
use Rattle.whole_sync.proofs.sync.finish.Goals as goal

pub returns-in_err-do_all-clause-done : goal.returns-in_err-do_all-clause-done
returns-in_err-do_all-clause-done g c =
    let p = err_from_is_err_and c.from_residual.result c.from_residual.ensures.1 in
    rw p.1 (made_off c.args.moves.now _ _ c.in_err-do_all.ensures.done)

pub returns-in_err-sync-clause-done : goal.returns-in_err-sync-clause-done
returns-in_err-sync-clause-done g c =
    let p = err_from_is_err_and c.from_residual-in_err-sync.result c.from_residual-in_err-sync.ensures.1 in
    rw p.1 (then_breaks _ _ _ _ _ _ (made c.args.moves.now _ _ c.in_ok-do_all.ensures.done) c.in_err-sync.ensures.err)

pub returns-in_err-do_all-2-clause-done : goal.returns-in_err-do_all-2-clause-done
returns-in_err-do_all-2-clause-done g c =
    let p = err_from_is_err_and c.from_residual-in_err-do_all-2.result c.from_residual-in_err-do_all-2.ensures.1 in
    let synced = then_does _ _ _ _ _ _ (made c.args.moves.now _ _ c.in_ok-do_all.ensures.done) c.in_ok-sync.ensures.ok in
    rw p.1 (gone_off c.args.moves.now _ _ _ synced c.in_err-do_all-2.ensures.done)

pub returns-in_err-sync-2-clause-done : goal.returns-in_err-sync-2-clause-done
returns-in_err-sync-2-clause-done g c =
    let p = err_from_is_err_and c.from_residual-in_err-sync-2.result c.from_residual-in_err-sync-2.ensures.1 in
    let synced = then_does _ _ _ _ _ _ (made c.args.moves.now _ _ c.in_ok-do_all.ensures.done) c.in_ok-sync.ensures.ok in
    rw p.1 (then_breaks _ _ _ _ _ _ (gone c.args.moves.now _ _ _ synced c.in_ok-do_all-2.ensures.done) c.in_err-sync-2.ensures.err)

pub returns-clause-done : goal.returns-clause-done
returns-clause-done g c =
    let synced = then_does _ _ _ _ _ _ (made c.args.moves.now _ _ c.in_ok-do_all.ensures.done) c.in_ok-sync.ensures.ok in
    let removed = then_does _ _ _ _ _ _ (gone c.args.moves.now _ _ _ synced c.in_ok-do_all-2.ensures.done) c.in_ok-sync-2.ensures.ok in
    then_last _ _ c.drop_list.result _ _ _ removed c.drop_list.ensures.ok c.drop_list.ensures.err
