use Rattle.plan_law.proofs.MarkedCombos.{combos_cells}
use Rattle.plan_law.proofs.bounds.touched_are_combinations.Goals as goal

pub returns : goal.returns
returns c = record { all = λ g c q k. combos_cells q g c k }
