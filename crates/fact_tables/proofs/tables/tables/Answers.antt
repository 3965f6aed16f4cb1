use Rattle.flow_law.proofs.FactTableLemmas.{constant_tables, variable_tables}
use Rattle.fact_tables.proofs.tables.tables.Goals as goal

pub returns-in-Some : goal.returns-in-Some
returns-in-Some t c = rw (constant_tables c.in-Some.label c.args.shape.now c.args.facts.now c.in-Some.is (rw c.in-Some.is at c.requires.bear)) c.one_table.ensures

pub returns-in-None : goal.returns-in-None
returns-in-None t c = rw (variable_tables c.args.shape.now c.args.facts.now c.in-None.is) c.label_tables.ensures
