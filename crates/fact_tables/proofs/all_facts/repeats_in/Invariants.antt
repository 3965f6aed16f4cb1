use Rattle.std.proofs.Common.{◌≡◌, ◌-◌, ◌≤◌, ◌++◌, drop, length}
use Rattle.fact_tables.specs.Counted.{repeats_in}
use Rattle.fact_tables.proofs.all_facts.repeats_in.Given as goal

abbrev pub invariant-loop-fact : goal.invariant-loop-fact
invariant-loop-fact t l = record {
  repeats : l.repeats.items ++ repeats_in (drop l.place l.facts) ≡ repeats_in l.facts;
  within : l.place ≤ length l.facts;
}

abbrev pub decreases-loop-fact : goal.decreases-loop-fact
decreases-loop-fact t l = length l.facts - l.place
