use Rattle.std.proofs.lemmas.Result.{err_from_is_err_and}
use Rattle.outside.proofs.EffectLemmas.{performs_as}
use Rattle.stack_answers.proofs.FolderLemmas.{first_filled}
use Rattle.stack_answers.proofs.PerformingLemmas.{performs_front, performs_both, performs_done, performs_lacking}
use Rattle.stack_answers.proofs.folders.+write_tables.Goals as goal

pub returns-in_err-sync_folder-clause-performs : goal.returns-in_err-sync_folder-clause-performs
returns-in_err-sync_folder-clause-performs g t c =
    let p = err_from_is_err_and c.from_residual.result c.from_residual.ensures.1 in
    rw (p.1, p.2) (performs_as _ _ _ _ _ (first_filled c.args.levels.now c.in-Some.above.now c.in-Some.level.now c.args.plans.now c.in-Some-split_first.plans_above.now c.in-Some-split_first.plan.now c.deref.result.now
    c.in-Some.ensures.cases.0 c.in-Some-split_first.ensures.cases.0 c.deref.ensures.value) (performs_front _ _ _ _ _ c.in_err-sync_folder.ensures))

pub returns-in_err-count-clause-performs : goal.returns-in_err-count-clause-performs
returns-in_err-count-clause-performs g t c =
    let p = err_from_is_err_and c.from_residual-in_err-count.result c.from_residual-in_err-count.ensures.1 in
    rw (p.1, p.2) (performs_as _ _ _ _ _ (first_filled c.args.levels.now c.in-Some.above.now c.in-Some.level.now c.args.plans.now c.in-Some-split_first.plans_above.now c.in-Some-split_first.plan.now c.deref.result.now
    c.in-Some.ensures.cases.0 c.in-Some-split_first.ensures.cases.0 c.deref.ensures.value) (performs_both _ _ _ _ _ _ _ c.in_ok-sync_folder.ensures c.in_err-count.ensures.performs))

pub returns-in-Some-checked_add-clause-performs : goal.returns-in-Some-checked_add-clause-performs
returns-in-Some-checked_add-clause-performs g t c =
    performs_as _ _ _ _ _ (first_filled c.args.levels.now c.in-Some.above.now c.in-Some.level.now c.args.plans.now c.in-Some-split_first.plans_above.now c.in-Some-split_first.plan.now c.deref.result.now
    c.in-Some.ensures.cases.0 c.in-Some-split_first.ensures.cases.0 c.deref.ensures.value) (performs_done _ _ _ _ _ (performs_both _ _ _ _ _ _ _ c.in_ok-sync_folder.ensures c.in_ok-count.ensures.performs))

pub returns-in-None-clause-performs : goal.returns-in-None-clause-performs
returns-in-None-clause-performs g t c =
    performs_as _ _ _ _ _ (first_filled c.args.levels.now c.in-Some.above.now c.in-Some.level.now c.args.plans.now c.in-Some-split_first.plans_above.now c.in-Some-split_first.plan.now c.deref.result.now
    c.in-Some.ensures.cases.0 c.in-Some-split_first.ensures.cases.0 c.deref.ensures.value) (performs_lacking _ _ _ _ (performs_both _ _ _ _ _ _ _ c.in_ok-sync_folder.ensures c.in_ok-count.ensures.performs))
