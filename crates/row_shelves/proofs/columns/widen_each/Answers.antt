use Rattle.std.proofs.Common.{◌<◌, ◌∙◌, ap, sym, subst, map, length, set, arith, length-set}
use Rattle.std.specs.List.{All}
use Rattle.std.proofs.lemmas.List.Elements.{AllWithin-more_set}
use Rattle.row_shelves.specs.Stocks.{Has}
use Rattle.row_shelves.specs.Shelves.{same_shelf, on_shelf}
use Rattle.row_shelves.proofs.ElementLemmas.{seen_set, all_set, all_written}
use Rattle.row_shelves.proofs.columns.widen_each.Goals as goal

pub loop-shelf-preserved : goal.loop-shelf-preserved
loop-shelf-preserved c =
    let now = c.loop-shelf.shelf-items in
    let i = c.loop-shelf.shelf-index in
    let new = c.widen.new.self in
    let same = c.widen.ensures in
    let lt : i < length now = omega arith in
    record {
      same = seen_set same_shelf now i c.shelf-item.result new lt (λ j. (same.same j, same.count j, same.capacity j)) ∙ c.loop-shelf.invariant.same;
      grows = λ n h. all_set (λ s. All (Has n) (on_shelf s)) now i new (c.loop-shelf.invariant.grows n h) (same.grows n (c.loop-shelf.invariant.grows n h i c.shelf-item.result lt));
      room = AllWithin-more_set now i new lt (λ s. All (Has c.args.bound) (on_shelf s)) c.loop-shelf.invariant.room c.in_ok-widen.ensures.room;
    }

pub returns-in_err-widen-clause-same : goal.returns-in_err-widen-clause-same
returns-in_err-widen-clause-same c =
    let now = c.loop-shelf.shelf-items in
    let i = c.loop-shelf.shelf-index in
    let new = c.widen.new.self in
    let same = c.widen.ensures in
    let lt : i < length now = omega arith in
    ap (map same_shelf) (all_written c.args.shelves.now.len (set now i new) c.args.shelves.now.items (omega (arith, length-set now i new)))
    ∙ seen_set same_shelf now i c.shelf-item.result new lt (λ j. (same.same j, same.count j, same.capacity j)) ∙ c.loop-shelf.invariant.same

pub returns-in_err-widen-clause-grows : goal.returns-in_err-widen-clause-grows
returns-in_err-widen-clause-grows c =
    let now = c.loop-shelf.shelf-items in
    let i = c.loop-shelf.shelf-index in
    let new = c.widen.new.self in
    let lt : i < length now = omega arith in
    λ n h. subst (All (λ s. All (Has n) (on_shelf s))) (sym (all_written c.args.shelves.now.len (set now i new) c.args.shelves.now.items (omega (arith, length-set now i new))))
    (all_set (λ s. All (Has n) (on_shelf s)) now i new (c.loop-shelf.invariant.grows n h) (c.widen.ensures.grows n (c.loop-shelf.invariant.grows n h i c.shelf-item.result lt)))
