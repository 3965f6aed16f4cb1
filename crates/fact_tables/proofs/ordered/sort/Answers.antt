use Rattle.std.proofs.lemmas.List.Sorted.{ranks_by, answers_always}
use Rattle.std.proofs.Common.{rules}
use Rattle.std.specs.Ordering.{is_lt}
use Rattle.flow_law.specs.FactOrder.{by_key}
use Rattle.flow_law.specs.Labelled.{AllBear}
use Rattle.fact_tables.proofs.OrderLemmas.{in_table_total, sorted_in_table}
use Rattle.fact_tables.proofs.ordered.sort.Goals as goal

pub returns-in-Some-clause-sorted : goal.returns-in-Some-clause-sorted
returns-in-Some-clause-sorted g c =
    let sorted = c.sort_unstable_by.ensures.sorted (λ x y. is_lt (by_key x y)) (ranks_by in_table_total (λ f. f)) (answers_always _ _ _ (λ f a r g called. search rules)) in
    let bear : AllBear c.in-Some.field-0 c.args.facts.now.items = rw c.in-Some.is at c.requires in
    sorted_in_table c.in-Some.field-0 c.args.facts.now.items c.sort_unstable_by.new.self.items bear c.sort_unstable_by.ensures.permutation sorted
