use Rattle.std.proofs.Common.{◌+◌, ◌-◌, ◌∙◌, sym, arith}
use Rattle.change_draft.proofs.RowsLaw.{told_alike, untold}
use Rattle.change_draft.proofs.counted.RowCounts.fills.Goals as goal

pub returns-then-self : goal.returns-then-self
returns-then-self c =
    let t = c.args.self.now in
    told_alike c.args.room (t.come - t.gone) (t.gone + c.args.room) t.come (λ h. omega arith) (λ h. omega arith)

pub returns-else-self : goal.returns-else-self
returns-else-self c =
    let t = c.args.self.now in
    untold t.gone t.come (omega arith) ∙ sym (untold (t.gone + c.args.room) t.come (omega arith))
