use Rattle.change_journal.proofs.LineLemmas.{all_have}
use Rattle.change_journal.proofs.lines_tell_groups.Goals as goal

pub returns : goal.returns
returns c = all_have
