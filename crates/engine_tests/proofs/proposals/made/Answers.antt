use Rattle.engine_tests.proofs.WaitLemmas.{is_proposal}
use Rattle.engine_tests.proofs.proposals.made.Goals as goal

pub accept-requires : goal.accept-requires
accept-requires g c = is_proposal _ _ c.in-Ok.ensures.proposes
