use Rattle.std.proofs.Common.{◌≡◌, ◌-◌, ◌≤◌, ◌++◌, drop, length}
use Rattle.fact_tables.proofs.TableRows.{rows_of}
use Rattle.fact_tables.proofs.tables.table.Given as goal

abbrev pub invariant-loop-first : goal.invariant-loop-first
invariant-loop-first t l = record {
  columns : l.table.columns ≡ l.columns.items;
  rows : l.table.rows ++ rows_of l.columns.items (drop l.from l.facts) ≡ rows_of l.columns.items l.facts;
  within : l.from ≤ length l.facts;
}

abbrev pub decreases-loop-first : goal.decreases-loop-first
decreases-loop-first t l = length l.facts - l.from
