use Rattle.std.proofs.Common.{[], rules}
use Rattle.std.proofs.lemmas.Fn.{always_returns_same}
use Rattle.ss_text.specs.Texts.{row_cmp}
use Rattle.ss_text.proofs.KeyLemmas.{row_order, searched}
use Rattle.row_shelves.specs.Stocks.{stock, stock_key}
use Rattle.row_shelves.specs.Shelves.{first_key, on_shelf}
use Rattle.row_shelves.proofs.RoomLemmas.{somes}
use Rattle.row_shelves.proofs.ShelfLemmas.{begins_ascend}
use Rattle.row_shelves.proofs.find.shelf_of.Goals as goal

pub returns : goal.returns
returns c =
    let facts = c.binary_search_by.ensures in
    let by_first = facts.position (λ s. row_cmp (first_key s) c.args.key.now) (always_returns_same _ _ _ (λ a r g called. search rules)) in
    let ascend = begins_ascend row_order stock_key on_shelf (stock [] [] 0) c.args.shelves.now (somes c.args.shelves.now c.requires.each) c.requires.keys in
    let answer = searched row_order first_key c.args.key.now c.args.shelves.now c.binary_search_by.result ascend facts.bound by_first in
    record { found = answer.found; absent = answer.absent }
