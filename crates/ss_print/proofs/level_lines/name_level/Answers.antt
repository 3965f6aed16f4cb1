use Rattle.std.proofs.Common.{arith}
use Rattle.ss_print.proofs.LevelLineLemmas.{named_does}
use Rattle.ss_print.proofs.level_lines.name_level.Goals as goal

pub returns-clause-does : goal.returns-clause-does
returns-clause-does g c = λ s. named_does c.args.level _ _ _ (omega arith) (c.say_level.ensures.does s)
