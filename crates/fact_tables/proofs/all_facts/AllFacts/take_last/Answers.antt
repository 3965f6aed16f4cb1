use Rattle.fact_tables.proofs.OrderLemmas.{strict_left, bear_left}
use Rattle.fact_tables.proofs.all_facts.AllFacts.take_last.Goals as goal

pub invariant_of-self-then-len-capacity : goal.invariant_of-self-then-len-capacity
invariant_of-self-then-len-capacity t c =
    record {
      sorted = rw c.shrink_to_fit.ensures.items (strict_left c.self.inside.once.items c.pop-2.new.self.items c.in_ok-fact.fact c.in_ok-fact.ensures.items c.self.invariant.sorted);
      bear = rw c.shrink_to_fit.ensures.items (bear_left c.self.inside.shape.now.label c.self.inside.once.items c.pop-2.new.self.items c.in_ok-fact.fact c.in_ok-fact.ensures.items c.self.invariant.bear);
    }

pub invariant_of-self-else-len-capacity : goal.invariant_of-self-else-len-capacity
invariant_of-self-else-len-capacity t c = record {
  sorted = strict_left c.self.inside.once.items c.pop-2.new.self.items c.in_ok-fact.fact c.in_ok-fact.ensures.items c.self.invariant.sorted;
  bear = bear_left c.self.inside.shape.now.label c.self.inside.once.items c.pop-2.new.self.items c.in_ok-fact.fact c.in_ok-fact.ensures.items c.self.invariant.bear;
}
