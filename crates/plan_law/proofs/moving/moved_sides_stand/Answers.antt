use Rattle.plan_law.proofs.PlanLaws.{sides_follow}
use Rattle.plan_law.proofs.moving.moved_sides_stand.Goals as goal

pub returns : goal.returns
returns c = record { stand = λ c c' q ks ps out profile walk. sides_follow c c' q ks ps out profile walk }
