use Rattle.std.proofs.Common.{arith}
use Rattle.view_stack.proofs.SlotLemmas.{none_holds, not_enough, shelf_rows_there}
use Rattle.view_stack.proofs.database.room_behind.Goals as goal

pub returns-in_err-left-clause-none : goal.returns-in_err-left-clause-none
returns-in_err-left-clause-none c =
    let less = not_enough _ c.loop-shelf.left c.in_err-left.ensures in
    let there = shelf_rows_there c.args.shelves.now c.loop-shelf.shelf-index c.shelf-item.result c.rows.result.now c.loop-shelf-test.true c.shelf-item.is c.rows.ensures in
    none_holds c.from_residual.result _ (omega (arith, less, there))
