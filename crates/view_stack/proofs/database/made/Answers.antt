use Rattle.std.proofs.Common.{refl}
use Rattle.view_stack.proofs.SlotLemmas.{one_name, slot_takes, slot_put, slot_count}
use Rattle.view_stack.proofs.database.made.Goals as goal

pub put_database-requires-clause-names : goal.put_database-requires-clause-names
put_database-requires-clause-names c = rw c.seeded-catalogue.ensures (one_name c.in_ok-copy.field-0 c.args.view_db.now c.in_ok-copy.ensures c.requires.legal)

pub put_slot-requires-clause-takes : goal.put_slot-requires-clause-takes
put_slot-requires-clause-takes c =
    slot_takes c.args.view_db.now c.args.shape.now _ c.requires.form c.requires.some c.requires.order c.requires.fits c.requires.within c.args.slots.now c.loop-slot.slot-index c.slot-item.result c.loop-slot.rel c.loop-slot.catalogue
    refl c.loop-slot-test.true c.slot-item.is c.loop-slot.invariant.rel c.loop-slot.invariant.put

pub loop-slot-preserved : goal.loop-slot-preserved
loop-slot-preserved c = record {
  put = slot_put c.args.view_db.now c.args.shape.now c.args.slots.now c.loop-slot.slot-index c.slot-item.result c.loop-slot.catalogue _ c.loop-slot-test.true c.slot-item.is c.loop-slot.invariant.put c.in_ok-rel.ensures.put;
  rel = slot_count c.args.slots.now c.loop-slot.slot-index c.slot-item.result c.loop-slot.rel _ c.loop-slot-test.true c.slot-item.is c.loop-slot.invariant.rel c.in_ok-rel.ensures.rel;
}
