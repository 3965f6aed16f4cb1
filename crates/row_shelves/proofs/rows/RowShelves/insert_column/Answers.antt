use Rattle.std.proofs.Common.{refl, ◌<◌, ◌≤◌, length}
use Rattle.std.specs.Vec.{vec_len}
use Rattle.ss_text.specs.Texts.{Row}
use Rattle.flow_law.specs.Lines.{with_empty_cell}
use Rattle.row_shelves.specs.Shelves.{all_rows}
use Rattle.row_shelves.proofs.ValueLemmas.{seen_mapped, fact_of}
use Rattle.row_shelves.proofs.StockLemmas.{room_mapped, spaces}
use Rattle.row_shelves.proofs.SupplyLemmas.{still_supplied}
use Rattle.row_shelves.proofs.rows.RowShelves.insert_column.Goals as goal

pub insert_column-requires-clause-space : goal.insert_column-requires-clause-space
insert_column-requires-clause-space c =
    let rows = all_rows c.self.inside.shelves.items in
    let bound = c.self.inside.bound in
    spaces c.args.place bound rows (fact_of (λ (r : Row × Row). c.args.place ≤ length r.1) rows (rw (← c.self.view_is) at c.requires.within)) (fact_of (λ (r : Row × Row). length r.1 < bound) rows (rw (← c.self.view_is) at c.requires.room)) c.self.invariant.rows

pub invariant_of-self : goal.invariant_of-self
invariant_of-self c = record {
  shelves = c.insert_column.ensures.shelves;
  rows = rw c.insert_column.ensures.rows (room_mapped c.self.inside.bound (with_empty_cell c.args.place) (all_rows c.self.inside.shelves.items) c.self.invariant.rows);
  new = c.self.invariant.new;
  cells = c.self.invariant.cells;
  supply = λ some. still_supplied c.insert_column.new.shelves c.self.inside.shelves c.self.inside.spare (vec_len c.self.inside.cells) c.insert_column.ensures.surplus c.insert_column.ensures.count c.insert_column.ensures.capacity (c.self.invariant.supply some);
}

pub returns : goal.returns
returns c = rw (← c.self.view_is, c.insert_column.ensures.rows, seen_mapped (with_empty_cell c.args.place) (all_rows c.self.inside.shelves.items)) refl
