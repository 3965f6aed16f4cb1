use Rattle.std.proofs.Common.{◌∙◌, ap}
use Rattle.view_session.specs.Session.{dismissed}
use Rattle.view_session.proofs.WaitLemmas.{dropped}
use Rattle.view_session.proofs.applies.SessionApplies.dismiss.Goals as goal

pub returns-clause-dropped : goal.returns-clause-dropped
returns-clause-dropped c = λ s gs idle is. c.dismiss.ensures ∙ ap dismissed is ∙ dropped s gs idle
