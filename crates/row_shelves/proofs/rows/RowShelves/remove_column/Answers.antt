use Rattle.std.proofs.Common.{refl, ◌<◌, length}
use Rattle.std.specs.Vec.{vec_len}
use Rattle.ss_text.specs.Texts.{Row}
use Rattle.flow_law.specs.Lines.{without_cell}
use Rattle.row_shelves.specs.Shelves.{all_rows}
use Rattle.row_shelves.proofs.ValueLemmas.{seen_mapped, fact_of}
use Rattle.row_shelves.proofs.StockLemmas.{room_mapped}
use Rattle.row_shelves.proofs.SupplyLemmas.{still_supplied}
use Rattle.row_shelves.proofs.rows.RowShelves.remove_column.Goals as goal

pub remove_column-requires-clause-cells : goal.remove_column-requires-clause-cells
remove_column-requires-clause-cells c = fact_of (λ (r : Row × Row). c.args.place < length r.1) (all_rows c.self.inside.shelves.items) (rw (← c.self.view_is) at c.requires)

pub invariant_of-self : goal.invariant_of-self
invariant_of-self c = record {
  shelves = c.remove_column.ensures.shelves;
  rows = rw c.remove_column.ensures.rows (room_mapped c.self.inside.bound (without_cell c.args.place) (all_rows c.self.inside.shelves.items) c.self.invariant.rows);
  new = c.self.invariant.new;
  cells = c.self.invariant.cells;
  supply = λ some. still_supplied c.remove_column.new.shelves c.self.inside.shelves c.self.inside.spare (vec_len c.self.inside.cells) c.remove_column.ensures.surplus c.remove_column.ensures.count c.remove_column.ensures.capacity (c.self.invariant.supply some);
}

pub returns : goal.returns
returns c = rw (← c.self.view_is, c.remove_column.ensures.rows, seen_mapped (without_cell c.args.place) (all_rows c.self.inside.shelves.items)) refl
