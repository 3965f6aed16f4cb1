use Rattle.std.proofs.Common.{arith}
use Rattle.view_stack.proofs.SlotLemmas.{none_holds, more_rows, all_rows_there}
use Rattle.view_stack.proofs.database.room_left.Goals as goal

pub returns-in_err-room-clause-none : goal.returns-in_err-room-clause-none
returns-in_err-room-clause-none c =
    let less = c.in_err-room.ensures.none in
    let there = all_rows_there c.args.slots.now c.loop-slot.slot-index c.slot-item.result c.loop-slot-test.true c.slot-item.is in
    let so_far = c.loop-slot.invariant in
    none_holds c.from_residual.result _ (omega (arith, less, there, so_far))

pub loop-slot-preserved : goal.loop-slot-preserved
loop-slot-preserved c =
    let more = more_rows c.args.slots.now c.loop-slot.slot-index c.slot-item.result c.loop-slot-test.true c.slot-item.is in
    let left = c.in_ok-room.ensures.left in
    let so_far = c.loop-slot.invariant in
    omega (arith, more, left, so_far)
