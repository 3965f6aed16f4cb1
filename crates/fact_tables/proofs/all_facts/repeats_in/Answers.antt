use Rattle.std.proofs.Common.{◌∙◌, ◌++◌, List, ap, sym}
use Rattle.std.proofs.lemmas.List.{append-nil}
use Rattle.flow_law.specs.Facts.{Fact}
use Rattle.fact_tables.specs.Counted.{repeats_in}
use Rattle.fact_tables.proofs.RepeatLemmas.{none_repeat}
use Rattle.fact_tables.proofs.all_facts.repeats_in.Goals as goal

pub returns : goal.returns
returns t c =
    let found = c.loop-fact.repeats.items in
    sym (append-nil found) ∙ ap (λ (rest : List Fact). found ++ rest) (sym (none_repeat c.facts_from.result.now c.in_default.len_below) ∙ ap repeats_in c.facts_from.ensures) ∙ c.loop-fact.invariant.repeats
