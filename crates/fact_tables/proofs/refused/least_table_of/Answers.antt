use Rattle.std.proofs.Common.{◌∙◌}
use Rattle.fact_tables.proofs.OneLabel.{first_tells}
use Rattle.fact_tables.proofs.refused.least_table_of.Goals as goal

pub returns-in_ok-first-in-Some : goal.returns-in_ok-first-in-Some
returns-in_ok-first-in-Some t c = c.illegal_table.ensures ∙ first_tells c.in-Some.field-0 c.in_ok-first-in-Some.field-0.now c.args.facts.now (rw c.in-Some.is at c.requires) c.in_ok-first-in-Some.ensures.value
