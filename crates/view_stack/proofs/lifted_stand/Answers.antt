use Rattle.view_stack.proofs.LawLemmas.{lift_law, limit_law}
use Rattle.view_stack.proofs.lifted_stand.Goals as goal

pub returns-clause-stand : goal.returns-clause-stand
returns-clause-stand c = lift_law

pub returns-clause-limit : goal.returns-clause-limit
returns-clause-limit c = λ shape db d old new form some sound order order_then fit fit_then h. limit_law shape db d old new form sound order order_then fit fit_then h some
