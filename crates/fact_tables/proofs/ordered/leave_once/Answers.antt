use Rattle.std.proofs.Common.{◌∙◌, sym, ap}
use Rattle.std.specs.Prelude.{option_map}
use Rattle.flow_law.specs.declared.refused.EvalFault.TheVariants.{Conflict}
use Rattle.fact_tables.proofs.OrderLemmas.{left_once, strict, conflict_once}
use Rattle.fact_tables.proofs.ordered.leave_once.Goals as goal

pub conflict-requires : goal.conflict-requires
conflict-requires t c = strict c.args.facts.now.items _ (c.deref.ensures.value ∙ left_once _ _ c.requires c.dedup.ensures.filtered)

pub returns-in-Some-clause-refused : goal.returns-in-Some-clause-refused
returns-in-Some-clause-refused t c =
    let order = c.deref.ensures.value ∙ left_once _ _ c.requires c.dedup.ensures.filtered in
    ap (option_map Conflict) (sym (conflict_once c.args.facts.now.items _ order) ∙ sym c.in_ok-clash.ensures ∙ c.in-Some.is)

pub returns-clause-order : goal.returns-clause-order
returns-clause-order t c = left_once _ _ c.requires c.dedup.ensures.filtered

pub returns-clause-clean : goal.returns-clause-clean
returns-clause-clean t c =
    let order = c.deref.ensures.value ∙ left_once _ _ c.requires c.dedup.ensures.filtered in
    sym (conflict_once c.args.facts.now.items _ order) ∙ sym c.in_ok-clash.ensures ∙ c.in_default.is
