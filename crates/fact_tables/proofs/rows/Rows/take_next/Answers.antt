use Rattle.std.proofs.Common.{◌∙◌, sym}
use Rattle.ss_text.proofs.GroupLemmas.{strict_drop}
use Rattle.flow_law.specs.FactOrder.{by_key}
use Rattle.fact_tables.proofs.TableRows.{no_row, first_sorted, next_row}
use Rattle.fact_tables.proofs.rows.Rows.take_next.Goals as goal

pub returns-in_err-first-clause-none : goal.returns-in_err-first-clause-none
returns-in_err-first-clause-none t c =
    rw c.from_residual.ensures (sym c.self.view_is ∙ no_row c.self.inside.columns.now c.self.inside.facts.now c.in_err-first.ensures.fact)

pub of-row-requires : goal.of-row-requires
of-row-requires t c = first_sorted c.self.inside.facts.now c.self.invariant c.in_ok-first.first.now c.in_ok-first.ensures.fact c.key_count-count.result c.key_count-count.ensures.count

pub invariant_of-self : goal.invariant_of-self
invariant_of-self t c = rw c.facts_from-self-inside.ensures (strict_drop by_key c.key_count-count.result c.self.inside.facts.now c.self.invariant)

pub returns-clause-next : goal.returns-clause-next
returns-clause-next t c =
    rw (c.facts_from-self-inside.ensures, c.of-row.ensures, c.key.ensures)
    (sym c.self.view_is ∙ next_row c.self.inside.facts.now c.self.invariant c.in_ok-first.first.now c.in_ok-first.ensures.fact c.key_count-count.result c.key_count-count.ensures.count c.self.inside.columns.now)
