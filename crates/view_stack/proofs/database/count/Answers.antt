use Rattle.std.proofs.Common.{◌+◌, ap, arith}
use Rattle.view_stack.proofs.SlotLemmas.{slot_count}
use Rattle.view_stack.proofs.database.count.Goals as goal

pub loop-slot-preserved : goal.loop-slot-preserved
loop-slot-preserved c = record {
  count = slot_count c.args.slots.now c.loop-slot.slot-index c.slot-item.result c.loop-slot.count _ c.loop-slot-test.true c.slot-item.is c.loop-slot.invariant.count (ap (λ n. c.loop-slot.count + n) c.slot_count-count.ensures.count);
  few = omega arith;
}
