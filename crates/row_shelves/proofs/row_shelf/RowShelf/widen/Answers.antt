use Rattle.std.proofs.Common.{sym, subst}
use Rattle.row_shelves.specs.Fronts.{IsFrontOf}
use Rattle.row_shelves.proofs.FirstLemmas.{first_same}
use Rattle.row_shelves.proofs.row_shelf.RowShelf.widen.Goals as goal

pub invariant_of-self : goal.invariant_of-self
invariant_of-self c = subst (IsFrontOf c.self.inside.front) (sym (first_same c.widen_rows.new.rows.items c.self.inside.rows.items c.widen_rows.ensures.same)) c.self.invariant

pub invariant_of-self-2 : goal.invariant_of-self-2
invariant_of-self-2 c = subst (IsFrontOf c.self.inside.front) (sym (first_same c.widen_rows.new.rows.items c.self.inside.rows.items c.widen_rows.ensures.same)) c.self.invariant
