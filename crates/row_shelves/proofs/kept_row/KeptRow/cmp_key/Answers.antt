use Rattle.ss_text.proofs.FrontLemmas.{rows_by_fronts}
use Rattle.row_shelves.proofs.kept_row.KeptRow.cmp_key.Goals as goal

pub returns-in_default : goal.returns-in_default
returns-in_default c =
    let numbers = rw (c.self.invariant.front, c.sought.invariant.front) at c.cmp.ensures in
    rw (← c.self.view_is, ← c.sought.view_is) (rows_by_fronts c.self.inside.key c.sought.inside.key.now c.self.invariant.digits c.sought.invariant.digits c.cmp.result numbers c.in_default.not-Equal)
