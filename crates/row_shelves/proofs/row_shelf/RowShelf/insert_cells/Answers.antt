use Rattle.std.proofs.Common.{sym, subst, ap, ◌∙◌, refl}
use Rattle.flow_law.specs.Lines.{with_empty_cell}
use Rattle.row_shelves.specs.Stocks.{changed}
use Rattle.row_shelves.specs.Fronts.{IsFrontOf}
use Rattle.row_shelves.proofs.FirstLemmas.{first_of_rows, first_stays}
use Rattle.row_shelves.proofs.row_shelf.RowShelf.insert_cells.Goals as goal

pub invariant_of-self : goal.invariant_of-self
invariant_of-self c =
    let first = ap first_of_rows c.insert_cells.ensures.rows ∙ first_stays (changed (with_empty_cell c.args.place)) (λ r. refl) c.self.inside.rows.items in
    subst (IsFrontOf c.self.inside.front) (sym first) c.self.invariant
