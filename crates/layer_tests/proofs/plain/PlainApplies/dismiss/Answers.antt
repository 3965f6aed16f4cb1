use Rattle.std.proofs.Common.{◌∙◌, None, ap}
use Rattle.layer_tests.specs.Plain.{PlainState}
use Rattle.layer_tests.proofs.PlainLemmas.{dropped}
use Rattle.layer_tests.proofs.plain.PlainApplies.dismiss.Goals as goal

pub returns-clause-dropped : goal.returns-clause-dropped
returns-clause-dropped c = λ p gs idle is. ap (λ (q : PlainState). record q { proposed = None }) (c.self.view_is ∙ is) ∙ dropped p gs idle
