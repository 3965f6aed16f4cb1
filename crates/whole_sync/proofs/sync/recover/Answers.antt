use Rattle.whole_sync.specs.Disks.{Clean}
use Rattle.whole_sync.proofs.PutLemmas.{recovers, off_of}
use Rattle.whole_sync.proofs.WholeLemmas.{recover_failed, recover_ends}
use Rattle.whole_sync.proofs.sync.recover.Goals as goal

pub returns-in_err-finish_list-clause-stops : goal.returns-in_err-finish_list-clause-stops
returns-in_err-finish_list-clause-stops g c = recover_failed _ _ c.in_err-finish_list.ensures.finished

pub returns-clause-ok : goal.returns-clause-ok
returns-clause-ok g c = recovers c.clean.result _ _ _ c.in_ok-finish_list.ensures.finished c.clean.ensures.ok

pub returns-clause-stops : goal.returns-clause-stops
returns-clause-stops g c = recover_ends _ _ _ c.in_ok-finish_list.ensures.finished (off_of Clean c.clean.result _ _ c.clean.ensures.ok c.clean.ensures.err)
