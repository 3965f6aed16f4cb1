use Rattle.std.proofs.Common.{subst}
use Rattle.flow_law.specs.InOrder.{AreTables}
use Rattle.flow_law.proofs.FactTableLemmas.{tables_in_order}
use Rattle.fact_tables.specs.Counted.{AllFactsValue}
use Rattle.fact_tables.proofs.all_facts.AllFacts.by_table.Goals as goal

pub returns-clause-in_order : goal.returns-clause-in_order
returns-clause-in_order t c = subst (λ (a : AllFactsValue). AreTables a.tables) c.self.view_is (tables_in_order c.self.inside.shape.now c.self.inside.once.items)
