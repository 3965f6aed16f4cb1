use Rattle.std.proofs.Common.{◌∙◌, ap}
use Rattle.stack_levels.proofs.KeptLemmas.{level_of, level_dismissed, dropped}
use Rattle.stack_levels.proofs.applies.LevelApplies.dismiss.Goals as goal

pub returns-clause-dropped : goal.returns-clause-dropped
returns-clause-dropped c = λ a gs idle is. ap (level_of c.self.inside.synced) c.dismiss.ensures ∙ ap level_dismissed (c.self.view_is ∙ is) ∙ dropped a gs idle
