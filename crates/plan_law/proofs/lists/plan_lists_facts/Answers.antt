use Rattle.plan_law.proofs.PlanLists.{rows_list_facts}
use Rattle.plan_law.proofs.lists.plan_lists_facts.Goals as goal

pub returns : goal.returns
returns c = record { lists = λ c q sound profile. rows_list_facts c q sound profile }
