use Rattle.outside.specs.Tree.{files_of}
use Rattle.outside.proofs.WholeLemmas.{read_told}
use Rattle.outside.proofs.sure_folders.SureFoldersFolders.files.Goals as goal

pub returns-clause-told : goal.returns-clause-told
returns-clause-told c = read_told (λ t. files_of t c.args.folder.now) _ _ _ c.self.view_is c.in_ok-names.ensures.names
