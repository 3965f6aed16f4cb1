use Rattle.std.proofs.Common.{◌∙◌}
use Rattle.plan_form.proofs.Facts.{fact_row_same}
use Rattle.plan_form.proofs.output.fact_row.Goals as goal

pub returns : goal.returns
returns c = λ q is. c.in_ok-fact.ensures ∙ fact_row_same q c.args.output.now is c.args.row.now
