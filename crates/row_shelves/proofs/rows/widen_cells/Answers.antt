use Rattle.std.proofs.Common.{◌<◌, sym, subst, length, get_or, set, arith, length-set}
use Rattle.std.specs.List.{All}
use Rattle.std.proofs.lemmas.List.Elements.{AllWithin-more_set}
use Rattle.row_shelves.specs.Blanks.{IsNewRow}
use Rattle.row_shelves.proofs.ElementLemmas.{all_set, all_written}
use Rattle.row_shelves.proofs.StockLemmas.{wider, as_wide}
use Rattle.row_shelves.proofs.rows.widen_cells.Goals as goal

pub loop-cells-preserved : goal.loop-cells-preserved
loop-cells-preserved c =
    let now = c.loop-cells.cells-items in
    let i = c.loop-cells.cells-index in
    let new = c.reserve.new.self in
    let old = get_or now i c.cells-item.result in
    let e = c.reserve.ensures in
    let lt : i < length now = omega arith in
    record {
      grows = λ n h. all_set (IsNewRow n) now i new (c.loop-cells.invariant.grows n h) (wider n old new e.items e.capacity (c.loop-cells.invariant.grows n h i c.cells-item.result lt));
      room = λ n h. AllWithin-more_set now i new lt (IsNewRow c.args.bound) (c.loop-cells.invariant.room n h) (as_wide n c.args.bound old new e.items (omega (arith, c.in_ok-reserve.ensures.ok)) (c.loop-cells.invariant.grows n h i c.cells-item.result lt));
    }

pub returns-in_err-reserve-clause-grows : goal.returns-in_err-reserve-clause-grows
returns-in_err-reserve-clause-grows c =
    let now = c.loop-cells.cells-items in
    let i = c.loop-cells.cells-index in
    let new = c.reserve.new.self in
    let old = get_or now i c.cells-item.result in
    let e = c.reserve.ensures in
    let lt : i < length now = omega arith in
    λ n h. subst (All (IsNewRow n)) (sym (all_written c.args.coming.now.len (set now i new) c.args.coming.now.items (omega (arith, length-set now i new))))
    (all_set (IsNewRow n) now i new (c.loop-cells.invariant.grows n h) (wider n old new e.items e.capacity (c.loop-cells.invariant.grows n h i c.cells-item.result lt)))

pub returns-clause-grows : goal.returns-clause-grows
returns-clause-grows c = λ n h. subst (All (IsNewRow n)) (sym (all_written c.args.coming.now.len c.loop-cells.cells-items c.args.coming.now.items (omega arith))) (c.loop-cells.invariant.grows n h)

pub returns-clause-room : goal.returns-clause-room
returns-clause-room c = λ n h. subst (All (IsNewRow c.args.bound)) (sym (all_written c.args.coming.now.len c.loop-cells.cells-items c.args.coming.now.items (omega arith))) (λ k d lt. c.loop-cells.invariant.room n h k d (omega arith) (omega arith))
