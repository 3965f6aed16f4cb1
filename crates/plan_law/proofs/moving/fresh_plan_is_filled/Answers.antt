use Rattle.schema_model.proofs.Kept.{no_databases}
use Rattle.plan_law.proofs.Empty.{filled}
use Rattle.plan_law.proofs.moving.fresh_plan_is_filled.Goals as goal

pub returns : goal.returns
returns c = record { sound = no_databases; filled = λ c q profile. filled c q profile }
