use Rattle.stack_answers.proofs.OpeningLemmas.{filled_open, filled_partly}
use Rattle.stack_answers.proofs.opening.fill_levels.Goals as goal

pub returns-in-Ok-clause-opens : goal.returns-in-Ok-clause-opens
returns-in-Ok-clause-opens g c = λ t k qs told fresh. filled_open t c.args.levels k qs c.of-stack.result _ _ fresh c.of-stack.ensures (c.in-Ok.ensures.does t told)

pub returns-in-Err-clause-opens : goal.returns-in-Err-clause-opens
returns-in-Err-clause-opens g c = λ t k qs told fresh. filled_partly t c.args.levels k qs c.of-stack.result _ _ fresh c.of-stack.ensures c.in-Err.stop (c.in-Err.ensures.does t told)
