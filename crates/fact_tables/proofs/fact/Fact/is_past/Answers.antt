use Rattle.std.proofs.Common.{sym, ◌∙◌}
use Rattle.fact_tables.proofs.ValueLemmas.{past_by_value}
use Rattle.fact_tables.proofs.fact.Fact.is_past.Goals as goal

pub returns-in-Equal : goal.returns-in-Equal
returns-in-Equal t c =
    rw (← c.cell.ensures, c.in-Some.is, c.is_empty.ensures)
    (past_by_value c.in-Some.named.now c.in-Some.value.now c.args.column.now (sym c.cmp.ensures ∙ c.in-Equal.is))
