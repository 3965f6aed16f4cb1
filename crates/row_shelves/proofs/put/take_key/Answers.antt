use Rattle.std.proofs.Common.{sym, ◌∙◌}
use Rattle.std.proofs.lemmas.Bool.{false≢true}
use Rattle.ss_text.proofs.KeyLemmas.{row_order, lacks_any, lacks_for, removed_at, ascends_removed}
use Rattle.row_shelves.specs.Stocks.{stock_key}
use Rattle.row_shelves.specs.Shelves.{all_rows, place_of}
use Rattle.row_shelves.proofs.put.take_key.Goals as goal

pub unreachable-requires : goal.unreachable-requires
unreachable-requires c =
    let rows = all_rows c.args.shelves.now.items in
    let gap = rw c.deref.ensures.value at c.in_default.ensures.absent in
    false≢true (sym (lacks_any row_order stock_key c.args.key.now rows (lacks_for row_order stock_key c.args.key.now rows (place_of c.args.shelves.now.items c.in_default.field-0) gap)) ∙ c.requires.there)

pub returns-clause-rows : goal.returns-clause-rows
returns-clause-rows c =
    let found = rw c.deref.ensures.value at c.in-Ok.ensures.found in
    c.remove_at.ensures.rows ∙ sym (removed_at row_order stock_key c.args.key.now (all_rows c.args.shelves.now.items) (place_of c.args.shelves.now.items c.in-Ok.spot) c.requires.shelves.keys found)

pub returns-clause-shelves : goal.returns-clause-shelves
returns-clause-shelves c = record {
  keys = rw c.remove_at.ensures.rows (ascends_removed row_order stock_key (all_rows c.args.shelves.now.items) (place_of c.args.shelves.now.items c.in-Ok.spot) c.requires.shelves.keys);
  each = c.remove_at.ensures.shelves;
}
