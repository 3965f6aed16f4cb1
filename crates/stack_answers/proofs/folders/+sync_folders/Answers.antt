use Rattle.std.proofs.lemmas.Result.{err_from_is_err_and}
use Rattle.outside.proofs.EffectLemmas.{performs_as}
use Rattle.stack_answers.proofs.FolderLemmas.{none_synced, first_synced}
use Rattle.stack_answers.proofs.PerformingLemmas.{performs_none, performs_front, performs_both}
use Rattle.stack_answers.proofs.folders.+sync_folders.Goals as goal

pub returns-in_default : goal.returns-in_default
returns-in_default g t c = performs_as _ _ _ _ _ (none_synced c.args.levels.now c.in_default.ensures.cases) (performs_none _ _)

pub returns-in_err-sync_changed : goal.returns-in_err-sync_changed
returns-in_err-sync_changed g t c =
    let p = err_from_is_err_and c.from_residual.result c.from_residual.ensures.1 in
    rw (p.1, p.2) (performs_as _ _ _ _ _ (first_synced c.args.levels.now c.in-Some.above.now c.in-Some.level.now c.in-Some.ensures.cases.0) (performs_front _ _ _ _ _ c.in_err-sync_changed.ensures))

pub returns : goal.returns
returns g t c = performs_as _ _ _ _ _ (first_synced c.args.levels.now c.in-Some.above.now c.in-Some.level.now c.in-Some.ensures.cases.0) (performs_both _ _ _ _ _ _ _ c.in_ok-sync_changed.ensures c.sync_folders.ensures)
