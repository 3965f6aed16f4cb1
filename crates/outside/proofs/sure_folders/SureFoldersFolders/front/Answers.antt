use Rattle.std.specs.Prelude.{take, option_map}
use Rattle.outside.specs.Tree.{file_at}
use Rattle.outside.proofs.WholeLemmas.{read_told}
use Rattle.outside.proofs.sure_folders.SureFoldersFolders.front.Goals as goal

pub returns-clause-told : goal.returns-clause-told
returns-clause-told c = read_told (λ t. option_map (take c.args.most) (file_at t c.args.folder.now c.args.file.now)) _ _ _ c.self.view_is c.in_ok-front.ensures.front
