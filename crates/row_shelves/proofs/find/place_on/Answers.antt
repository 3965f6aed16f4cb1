use Rattle.std.proofs.Common.{rules}
use Rattle.std.proofs.lemmas.Fn.{always_returns_same}
use Rattle.ss_text.specs.Texts.{row_cmp}
use Rattle.ss_text.proofs.KeyLemmas.{row_order, searched}
use Rattle.row_shelves.specs.Stocks.{Stock, stock_key}
use Rattle.row_shelves.proofs.find.place_on.Goals as goal

pub returns : goal.returns
returns c =
    let facts = c.binary_search_by.ensures in
    let by_key = facts.position (λ (r : Stock). row_cmp r.key c.args.key.now) (always_returns_same _ _ _ (λ a r g called. search rules)) in
    let answer = searched row_order stock_key c.args.key.now c.args.shelf.now.items c.binary_search_by.result c.requires (rw c.rows.ensures at facts.bound) (rw c.rows.ensures at by_key) in
    record { found = answer.found; absent = answer.absent }
