use Rattle.engine_tests.proofs.WaitLemmas.{is_idle}
use Rattle.engine_tests.proofs.proposals.first_opened.Goals as goal

pub first_other_or_last-requires : goal.first_other_or_last-requires
first_other_or_last-requires g c = is_idle _ _ c.requires
