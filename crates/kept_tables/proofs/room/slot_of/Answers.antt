use Rattle.kept_tables.proofs.SlotLemmas.{slot_inserted, dark_inserted}
use Rattle.kept_tables.proofs.RoomLemmas.{room_inserted}
use Rattle.kept_tables.proofs.room.slot_of.Goals as goal

pub returns-in_ok-insert-in-Err-clause-order : goal.returns-in_ok-insert-in-Err-clause-order
returns-in_ok-insert-in-Err-clause-order c =
    let gap = rw c.deref.ensures.value at c.in-Err.ensures.absent in
    rw (c.in_ok-insert-in-Err.ensures.items, c.in_ok-slot-in-Err.ensures, c.in_ok-copy-in-Err.ensures) (slot_inserted c.args.slots.now.items c.in-Err.place c.args.label.now c.requires gap)

pub returns-in_ok-insert-in-Err-clause-tables : goal.returns-in_ok-insert-in-Err-clause-tables
returns-in_ok-insert-in-Err-clause-tables c =
    rw (c.in_ok-insert-in-Err.ensures.items, c.in_ok-slot-in-Err.ensures, c.in_ok-copy-in-Err.ensures) (dark_inserted c.args.slots.now.items c.in-Err.place c.args.label.now)

pub returns-in_ok-insert-in-Err-clause-memory : goal.returns-in_ok-insert-in-Err-clause-memory
returns-in_ok-insert-in-Err-clause-memory c = λ lines h.
    rw (c.in_ok-insert-in-Err.ensures.items, c.in_ok-slot-in-Err.ensures, c.in_ok-copy-in-Err.ensures) (room_inserted c.args.slots.now.items c.in-Err.place c.args.label.now lines h)
