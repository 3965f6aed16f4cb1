use Rattle.std.proofs.Common.{◌≡◌, arith}
use Rattle.std.specs.Vec.{vec_len, vec_capacity}
use Rattle.row_shelves.specs.Shelves.{all_rows}
use Rattle.row_shelves.proofs.StockLemmas.{has_none, pushed_keys}
use Rattle.row_shelves.proofs.rows.RowShelves.push.Goals as goal

pub invariant_of-self-2 : goal.invariant_of-self-2
invariant_of-self-2 c =
    let bound : c.self.inside.bound ≡ 0 = rw (← c.self.view_is) at c.requires.no_bound in
    let none : vec_len c.self.inside.cells ≡ 0 = rw (← c.self.view_is) at c.requires.none in
    record {
      shelves = record {
        keys = rw (c.in_ok-append.ensures.ok, c.of.ensures) (pushed_keys (all_rows c.self.inside.shelves.items) c.args.key c.args.cells.items (vec_capacity c.args.cells) (rw (← c.self.view_is) at c.requires.order));
        each = c.append.ensures.shelves;
      };
      rows = rw bound (has_none (all_rows c.append.new.shelves.items));
      new = c.self.invariant.new;
      cells = c.self.invariant.cells;
      supply = λ some. absurd (omega (arith, some, none));
    }
