use Rattle.outside.proofs.TreeLemmas.{remove_folder}
use Rattle.outside.proofs.paths.take.Goals as goal

pub returns : goal.returns
returns c = remove_folder c.args.folders.now.keys c.remove.new.self.keys c.args.folder.now c.remove.ensures.updates.0
