use Rattle.std.proofs.Common.{length}
use Rattle.fact_tables.specs.Counted.{each_fact}
use Rattle.view_engine.proofs.Adding.{AreAdded}
use Rattle.view_engine.proofs.tables.ViewTables.fill.Given as goal

abbrev pub invariant-loop-fact : goal.invariant-loop-fact
invariant-loop-fact t l = AreAdded l.fn.self l.self (each_fact l.fn.facts) (each_fact l.left)

abbrev pub decreases-loop-fact : goal.decreases-loop-fact
decreases-loop-fact t l = length (each_fact l.left)
