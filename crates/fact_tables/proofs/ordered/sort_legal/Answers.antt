use Rattle.std.proofs.Common.{◌∙◌, sym}
use Rattle.fact_tables.proofs.OrderLemmas.{label_refused}
use Rattle.fact_tables.proofs.ordered.sort_legal.Goals as goal

pub returns-in-Some-clause-refused : goal.returns-in-Some-clause-refused
returns-in-Some-clause-refused t c =
    label_refused c.args.shape.now c.args.facts.now.items c.in-Some.label (rw c.deref.ensures.value at (sym c.in-Some.is ∙ c.in_ok-label.ensures))
