use Rattle.std.proofs.Common.{subst}
use Rattle.flow_law.specs.InOrder.{AreTables}
use Rattle.flow_law.proofs.FactTableLemmas.{tables_in_order}
use Rattle.fact_tables.proofs.ordered.OrderedFacts.by_table.Goals as goal

pub returns-clause-in_order : goal.returns-clause-in_order
returns-clause-in_order t c = subst AreTables c.self.view_is (tables_in_order c.self.inside.shape.now c.self.inside.facts.items)
