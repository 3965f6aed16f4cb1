use Rattle.outside.specs.Tree.{subfolders_of}
use Rattle.outside.proofs.WholeLemmas.{read_told}
use Rattle.outside.proofs.sure_folders.SureFoldersFolders.subfolders.Goals as goal

pub returns-clause-told : goal.returns-clause-told
returns-clause-told c = read_told (λ t. subfolders_of t c.args.folder.now) _ _ _ c.self.view_is c.in_ok-children.ensures.names
