use Rattle.std.proofs.Common.{sym, ◌∙◌, arith}
use Rattle.std.proofs.lemmas.Bool.{false≢true}
use Rattle.ss_text.proofs.KeyLemmas.{row_order, has_any, placed_for, ascends_placed}
use Rattle.row_shelves.specs.Stocks.{stock_key}
use Rattle.row_shelves.specs.Shelves.{all_rows, place_of}
use Rattle.row_shelves.proofs.put.put_on.Goals as goal

pub unreachable-requires : goal.unreachable-requires
unreachable-requires c =
    let found = rw (c.deref.ensures.value, c.key.ensures) at c.in_default.ensures.found in
    false≢true (sym c.requires.absent ∙ has_any row_order stock_key c.args.row.key (all_rows c.args.shelves.now.items) (place_of c.args.shelves.now.items c.in_default.field-0) found)

pub returns-clause-rows : goal.returns-clause-rows
returns-clause-rows c =
    let gap = rw (c.deref.ensures.value, c.key.ensures) at c.in-Err.ensures.absent in
    c.cut_full.ensures.rows ∙ c.insert_at.ensures.rows ∙ sym (placed_for row_order stock_key c.args.row (all_rows c.args.shelves.now.items) (place_of c.args.shelves.now.items c.in-Err.spot) gap)

pub returns-clause-shelves : goal.returns-clause-shelves
returns-clause-shelves c =
    let gap = rw (c.deref.ensures.value, c.key.ensures) at c.in-Err.ensures.absent in
    record {
      keys = rw (c.cut_full.ensures.rows, c.insert_at.ensures.rows) (ascends_placed row_order stock_key c.args.row (all_rows c.args.shelves.now.items) (place_of c.args.shelves.now.items c.in-Err.spot) c.requires.shelves.keys gap);
      each = c.cut_full.ensures.shelves;
    }

pub cut_full-requires-clause-enough : goal.cut_full-requires-clause-enough
cut_full-requires-clause-enough c = omega (arith, c.insert_at.ensures.surplus, c.requires.supply.enough, c.requires.some, c.args.shelves.now.ok.0)

pub cut_full-requires-clause-room : goal.cut_full-requires-clause-room
cut_full-requires-clause-room c = omega (arith, c.insert_at.ensures.count, c.insert_at.ensures.capacity, c.requires.supply.space)

pub returns-clause-cost : goal.returns-clause-cost
returns-clause-cost c = omega (arith, c.insert_at.ensures.surplus, c.cut_full.ensures.cost)
