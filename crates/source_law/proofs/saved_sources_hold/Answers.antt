use Rattle.source_law.proofs.LawLemmas.{saved_hold}
use Rattle.source_law.proofs.saved_sources_hold.Goals as goal

pub returns : goal.returns
returns c = saved_hold
