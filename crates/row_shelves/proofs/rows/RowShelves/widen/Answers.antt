use Rattle.std.proofs.Common.{sym, subst, arith}
use Rattle.std.specs.Vec.{vec_len}
use Rattle.row_shelves.specs.Blanks.{IsNewRow, AreSupplied}
use Rattle.row_shelves.proofs.ElementLemmas.{all_each, each_all}
use Rattle.row_shelves.proofs.SupplyLemmas.{still_supplied}
use Rattle.row_shelves.proofs.rows.RowShelves.widen.Goals as goal

pub invariant_of-self : goal.invariant_of-self
invariant_of-self c = record {
  shelves = c.widen.ensures.shelves;
  rows = c.widen.ensures.grows c.self.inside.bound c.self.invariant.rows;
  new = c.self.invariant.new;
  cells = c.self.invariant.cells;
  supply = λ some. still_supplied c.widen.new.shelves c.self.inside.shelves c.self.inside.spare (vec_len c.self.inside.cells) c.widen.ensures.surplus c.widen.ensures.count c.widen.ensures.capacity (c.self.invariant.supply some);
}

pub invariant_of-self-in_err-widen_cells : goal.invariant_of-self-in_err-widen_cells
invariant_of-self-in_err-widen_cells c =
    let bound = c.self.inside.bound in
    let grown = c.widen_cells.ensures.grows bound (all_each (IsNewRow bound) c.self.inside.cells.items c.self.invariant.cells) in
    record {
      shelves = c.widen.ensures.shelves;
      rows = c.widen.ensures.grows bound c.self.invariant.rows;
      new = c.self.invariant.new;
      cells = each_all (IsNewRow bound) c.widen_cells.new.coming.items grown;
      supply = λ some. subst (AreSupplied c.widen.new.shelves c.self.inside.spare) (sym c.widen_cells.ensures.count)
          (still_supplied c.widen.new.shelves c.self.inside.shelves c.self.inside.spare (vec_len c.self.inside.cells) c.widen.ensures.surplus c.widen.ensures.count c.widen.ensures.capacity (c.self.invariant.supply (omega (arith, c.widen_cells.ensures.count, some))));
    }

pub invariant_of-self-2 : goal.invariant_of-self-2
invariant_of-self-2 c =
    let bound = c.self.inside.bound in
    let wide = c.in_ok-widen_cells.ensures.room bound (all_each (IsNewRow bound) c.self.inside.cells.items c.self.invariant.cells) in
    record {
      shelves = c.widen.ensures.shelves;
      rows = c.in_ok-widen.ensures.room;
      new = c.self.invariant.new;
      cells = each_all (IsNewRow c.args.bound) c.widen_cells.new.coming.items wide;
      supply = λ some. subst (AreSupplied c.widen.new.shelves c.self.inside.spare) (sym c.widen_cells.ensures.count)
          (still_supplied c.widen.new.shelves c.self.inside.shelves c.self.inside.spare (vec_len c.self.inside.cells) c.widen.ensures.surplus c.widen.ensures.count c.widen.ensures.capacity (c.self.invariant.supply (omega (arith, c.widen_cells.ensures.count, some))));
    }
