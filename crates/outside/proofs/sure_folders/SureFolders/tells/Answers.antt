use Rattle.outside.proofs.WholeLemmas.{told_seen}
use Rattle.outside.proofs.sure_folders.SureFolders.tells.Goals as goal

pub returns : goal.returns
returns c = told_seen _ _ c.self.view_is c.self.invariant
