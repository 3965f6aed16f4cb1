use Rattle.ss_text.proofs.FrontLemmas.{rows_by_fronts}
use Rattle.row_shelves.specs.Shelves.{first_key}
use Rattle.row_shelves.proofs.row_shelf.RowShelf.cmp_first_key.Goals as goal

pub returns-in_default : goal.returns-in_default
returns-in_default c =
    let numbers = rw (c.self.invariant.front, c.sought.invariant.front) at c.cmp.ensures in
    rw (← c.self.view_is, ← c.sought.view_is) (rows_by_fronts (first_key c.self.inside.rows) c.sought.inside.key.now c.self.invariant.digits c.sought.invariant.digits c.cmp.result numbers c.in_default.not-Equal)
