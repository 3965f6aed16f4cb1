use Rattle.std.proofs.Common.{◌≡◌, ◌-◌, ◌≤◌, ◌++◌, drop, length}
use Rattle.fact_tables.proofs.TableRows.{tables_of}
use Rattle.fact_tables.proofs.tables.label_tables.Given as goal

abbrev pub invariant-loop-first : goal.invariant-loop-first
invariant-loop-first t l = record {
  tables : l.tables ++ tables_of (drop l.from l.facts) ≡ tables_of l.facts;
  within : l.from ≤ length l.facts;
}

abbrev pub decreases-loop-first : goal.decreases-loop-first
decreases-loop-first t l = length l.facts - l.from
