use Rattle.plan_law.proofs.Theorem.{combos_list}
use Rattle.plan_law.proofs.lists.combinations_list_facts.Goals as goal

pub returns : goal.returns
returns c = record { lists = λ c q sound profile. combos_list c q sound profile }
