use Rattle.plan_law.proofs.PlanLaws.{is_bounded}
use Rattle.plan_law.proofs.bounds.walk_is_bounded.Goals as goal

pub returns : goal.returns
returns c = record { bounded = λ c q g up ks ps out profile one walk net is_net. is_bounded c q g up ks ps out profile one walk net is_net }
