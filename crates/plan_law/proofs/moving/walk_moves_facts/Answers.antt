use Rattle.plan_law.proofs.PlanLaws.{facts_move}
use Rattle.plan_law.proofs.moving.walk_moves_facts.Goals as goal

pub returns : goal.returns
returns c = record { moves = λ c c' q ks ps out sound sound' profile walk. facts_move c c' q ks ps out sound sound' profile walk }
