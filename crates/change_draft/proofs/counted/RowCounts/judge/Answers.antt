use Rattle.std.proofs.Common.{◌∙◌}
use Rattle.change_draft.proofs.RowsLaw.{schema_judged, of_others}
use Rattle.change_draft.proofs.counted.RowCounts.judge.Goals as goal

pub returns-in_default : goal.returns-in_default
returns-in_default c = λ gs all none.
    c.judge.ensures ∙ schema_judged c.args.base.now.databases gs c.args.change.now all.of_rows (of_others c.args.change.now c.in_default.not-Insert c.in_default.not-Delete)
