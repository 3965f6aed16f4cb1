use Rattle.plan_law.proofs.ChainPasses.{tested_early}
use Rattle.plan_law.proofs.lists.tests_come_early.Goals as goal

pub returns : goal.returns
returns c = record { same = λ g js yss xs late. tested_early g js yss xs late }
