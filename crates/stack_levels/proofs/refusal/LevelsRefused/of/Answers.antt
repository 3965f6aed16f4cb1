use Rattle.stack_levels.proofs.refusal.LevelsRefused.of.Goals as goal

pub returns-in-Change : goal.returns-in-Change
returns-in-Change c = λ k qs gs told. c.change_refused.ensures k qs gs (rw c.in-Change.is at told)
