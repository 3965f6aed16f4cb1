use Rattle.flow_law.proofs.FactTableLemmas.{sorted_by_key}
use Rattle.fact_tables.proofs.table_facts.one_table.Goals as goal

pub of-requires : goal.of-requires
of-requires t c = sorted_by_key c.args.label.now c.args.facts.now c.requires.bear c.requires.sorted
