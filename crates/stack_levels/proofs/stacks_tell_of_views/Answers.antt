use Rattle.stack_levels.proofs.LevelLemmas.{refusal_is, lines_are, kept_then}
use Rattle.stack_levels.proofs.stacks_tell_of_views.Goals as goal

pub returns-clause-tell : goal.returns-clause-tell
returns-clause-tell c = λ ls k d kept. record { refusal = refusal_is ls k d kept; lines = lines_are ls k d kept }

pub returns-clause-keep : goal.returns-clause-keep
returns-clause-keep c = kept_then
