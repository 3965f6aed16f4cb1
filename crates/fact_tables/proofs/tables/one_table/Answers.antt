use Rattle.std.specs.List.Sorted.{IsStrictlySortedBy}
use Rattle.flow_law.proofs.FactTableLemmas.{sorted_by_key}
use Rattle.fact_tables.proofs.tables.one_table.Goals as goal

pub table-requires : goal.table-requires
table-requires t c = sorted_by_key c.args.label.now c.args.facts.now c.requires.bear c.requires.sorted

pub put_table-requires-clause-order : goal.put_table-requires-clause-order
unfolding IsStrictlySortedBy
put_table-requires-clause-order t c = rw c.new-tables.ensures (tt, tt)
