use Rattle.std.proofs.Common.{sym, ◌∙◌, refl, ◌<◌, length}
use Rattle.std.specs.Vec.{vec_len}
use Rattle.ss_text.specs.Texts.{Row, row_eq}
use Rattle.flow_law.specs.Lines.{with_cell_at}
use Rattle.row_shelves.specs.Stocks.{Stock}
use Rattle.row_shelves.specs.Shelves.{all_rows}
use Rattle.row_shelves.proofs.ValueLemmas.{key_seen, seen_changed, fact_of}
use Rattle.row_shelves.proofs.StockLemmas.{room_changed}
use Rattle.row_shelves.proofs.SupplyLemmas.{still_supplied}
use Rattle.row_shelves.proofs.rows.RowShelves.set_cell.Goals as goal

pub set_key-requires-clause-there : goal.set_key-requires-clause-there
set_key-requires-clause-there c = sym (key_seen c.args.key.now (all_rows c.self.inside.shelves.items)) ∙ (rw (← c.self.view_is) at c.requires.there)

pub set_key-requires-clause-cells : goal.set_key-requires-clause-cells
set_key-requires-clause-cells c = fact_of (λ (r : Row × Row). c.args.column < length r.1) (all_rows c.self.inside.shelves.items) (rw (← c.self.view_is) at c.requires.cells)

pub invariant_of-self : goal.invariant_of-self
invariant_of-self c = record {
  shelves = c.set_key.ensures.shelves;
  rows = rw c.set_key.ensures.rows (room_changed c.self.inside.bound (λ (r : Stock). row_eq c.args.key.now r.key) (with_cell_at c.args.column c.args.value) (all_rows c.self.inside.shelves.items) c.self.invariant.rows);
  new = c.self.invariant.new;
  cells = c.self.invariant.cells;
  supply = λ some. still_supplied c.set_key.new.shelves c.self.inside.shelves c.self.inside.spare (vec_len c.self.inside.cells) c.set_key.ensures.surplus c.set_key.ensures.count c.set_key.ensures.capacity (c.self.invariant.supply some);
}

pub returns : goal.returns
returns c = rw (← c.self.view_is, c.set_key.ensures.rows, seen_changed c.args.key.now (with_cell_at c.args.column c.args.value) (all_rows c.self.inside.shelves.items)) refl
