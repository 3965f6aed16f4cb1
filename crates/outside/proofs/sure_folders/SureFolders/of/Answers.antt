use Rattle.outside.proofs.WholeLemmas.{whole_none}
use Rattle.outside.proofs.sure_folders.SureFolders.of.Goals as goal

pub invariant_of-result : goal.invariant_of-result
invariant_of-result c = whole_none _ _ c.new-2.ensures.empty
