use Rattle.std.proofs.Common.{◌≡◌, ◌-◌, ◌≤◌, drop, length}
use Rattle.flow_law.specs.Neighbours.{first_clash}
use Rattle.fact_tables.proofs.refused.conflict.Given as goal

abbrev pub invariant-loop-alloc : goal.invariant-loop-alloc
invariant-loop-alloc t l = record {
  clash : first_clash (drop l.place l.facts) ≡ first_clash l.facts;
  within : l.place ≤ length l.facts;
}

abbrev pub decreases-loop-alloc : goal.decreases-loop-alloc
decreases-loop-alloc t l = length l.facts - l.place
