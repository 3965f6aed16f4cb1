use Rattle.load_run.proofs.ProfileLemmas.{view_of_profile}
use Rattle.load_run.proofs.start.session.Goals as goal

pub open-requires : goal.open-requires
open-requires g c = record { profile = view_of_profile _ c.in_ok-view.ensures }
