use Rattle.std.proofs.Common.{refl}
use Rattle.row_shelves.proofs.rows.RowShelves.cells_of.Goals as goal

pub returns : goal.returns
returns c = rw (← c.self.view_is, c.cells_of.ensures, c.deref.ensures.value) refl
