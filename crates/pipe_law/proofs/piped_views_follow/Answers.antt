use Rattle.pipe_law.proofs.FolderLemmas.{tables_read_back}
use Rattle.pipe_law.proofs.PipeLemmas.{views_follow}
use Rattle.pipe_law.proofs.piped_views_follow.Goals as goal

pub returns-clause-read : goal.returns-clause-read
returns-clause-read c = tables_read_back

pub returns-clause-follow : goal.returns-clause-follow
returns-clause-follow c = views_follow
