use Rattle.engine_tests.proofs.WaitLemmas.{is_proposal}
use Rattle.engine_tests.proofs.proposals.dropped.Goals as goal

pub dismiss-requires : goal.dismiss-requires
dismiss-requires g c = is_proposal _ _ c.in-Ok.ensures.proposes
