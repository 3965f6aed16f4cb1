use Rattle.std.proofs.Common.{◌<◌, ◌∙◌, ap, sym, subst, length, set, arith, length-set}
use Rattle.std.proofs.lemmas.List.Elements.{AllWithin-more_set}
use Rattle.std.specs.List.{All}
use Rattle.row_shelves.specs.Stocks.{row_of, rows_of, Has}
use Rattle.row_shelves.proofs.ElementLemmas.{seen_set, all_set, all_written}
use Rattle.row_shelves.proofs.cells.widen_rows.Goals as goal

pub loop-row-preserved : goal.loop-row-preserved
loop-row-preserved c =
    let now = c.loop-row.row-items in
    let i = c.loop-row.row-index in
    let new = c.make_room.new.self in
    let lt : i < length now = omega arith in
    record {
      same = seen_set row_of now i c.row-item.result new lt (λ j. (c.make_room.ensures.key j, c.make_room.ensures.cells j)) ∙ c.loop-row.invariant.same;
      grows = λ n h. all_set (Has n) now i new (c.loop-row.invariant.grows n h) (omega (arith, c.make_room.ensures.grows, c.loop-row.invariant.grows n h i c.row-item.result lt));
      room = AllWithin-more_set now i new lt (Has c.args.bound) c.loop-row.invariant.room c.in_ok-make_room.ensures.room;
    }

pub returns-in_err-make_room-clause-same : goal.returns-in_err-make_room-clause-same
returns-in_err-make_room-clause-same c =
    let now = c.loop-row.row-items in
    let i = c.loop-row.row-index in
    let new = c.make_room.new.self in
    let lt : i < length now = omega arith in
    ap rows_of (all_written c.args.rows.now.len (set now i new) c.args.rows.now.items (omega (arith, length-set now i new)))
    ∙ seen_set row_of now i c.row-item.result new lt (λ j. (c.make_room.ensures.key j, c.make_room.ensures.cells j)) ∙ c.loop-row.invariant.same

pub returns-in_err-make_room-clause-grows : goal.returns-in_err-make_room-clause-grows
returns-in_err-make_room-clause-grows c =
    let now = c.loop-row.row-items in
    let i = c.loop-row.row-index in
    let new = c.make_room.new.self in
    let lt : i < length now = omega arith in
    λ n h. subst (All (Has n)) (sym (all_written c.args.rows.now.len (set now i new) c.args.rows.now.items (omega (arith, length-set now i new))))
    (all_set (Has n) now i new (c.loop-row.invariant.grows n h) (omega (arith, c.make_room.ensures.grows, c.loop-row.invariant.grows n h i c.row-item.result lt)))
