use Rattle.std.proofs.Common.{[], sym, ◌-◌, arith}
use Rattle.ss_text.proofs.KeyLemmas.{row_order}
use Rattle.row_shelves.specs.Stocks.{stock, stock_key}
use Rattle.row_shelves.specs.Shelves.{on_shelf}
use Rattle.row_shelves.proofs.RoomLemmas.{somes}
use Rattle.row_shelves.proofs.ShelfLemmas.{shelf_ascends, found_on, found_first, absent_first, absent_before}
use Rattle.row_shelves.proofs.find.find_sought.Goals as goal

pub place_on-requires : goal.place_on-requires
place_on-requires c =
    let lt = c.in-Err.ensures.absent.within in
    shelf_ascends row_order stock_key on_shelf (stock [] [] 0) c.args.shelves.now (c.in-Err.after - 1) c.index-shelves-shelf.result (omega (arith, lt, c.in-Err.after-test)) (sym c.index-shelves-shelf.is) c.requires.keys

pub returns-in-Ok-clause-found : goal.returns-in-Ok-clause-found
returns-in-Ok-clause-found c = found_first row_order stock_key on_shelf (stock [] [] 0) c.args.key.now c.args.shelves.now c.in-Ok.shelf (somes c.args.shelves.now c.requires.each) c.in-Ok.ensures.found

pub returns-in-Err-eq0-clause-absent : goal.returns-in-Err-eq0-clause-absent
returns-in-Err-eq0-clause-absent c = absent_first row_order stock_key on_shelf (stock [] [] 0) c.args.key.now c.args.shelves.now (somes c.args.shelves.now c.requires.each) c.requires.keys (rw c.in-Err-eq0.field-0-test at c.in-Err-eq0.ensures.absent)

pub returns-in-Ok-place_on-clause-found : goal.returns-in-Ok-place_on-clause-found
returns-in-Ok-place_on-clause-found c =
    let lt = c.in-Err.ensures.absent.within in
    found_on row_order stock_key on_shelf (stock [] [] 0) c.args.key.now c.args.shelves.now (c.in-Err.after - 1) c.in-Ok-place_on.place c.index-shelves-shelf.result (omega (arith, lt, c.in-Err.after-test)) (sym c.index-shelves-shelf.is) c.in-Ok-place_on.ensures.found

pub returns-in-Err-place_on-clause-absent : goal.returns-in-Err-place_on-clause-absent
returns-in-Err-place_on-clause-absent c =
    absent_before row_order stock_key on_shelf (stock [] [] 0) c.args.key.now c.args.shelves.now c.in-Err.after c.in-Err-place_on.place c.index-shelves-shelf.result (somes c.args.shelves.now c.requires.each) c.requires.keys c.in-Err.ensures.absent (omega (arith, c.in-Err.after-test)) (sym c.index-shelves-shelf.is) c.in-Err-place_on.ensures.absent
