use Rattle.std.proofs.Common.{◌≡◌, refl, slice_set}
use Rattle.ss_text.specs.Places.{at_place}
use Rattle.ss_text.proofs.PlaceLemmas.{put_back}
use Rattle.kept_tables.specs.Slots.{slot_for}
use Rattle.kept_tables.proofs.SlotLemmas.{same_tables, slots_stay}
use Rattle.kept_tables.proofs.RoomLemmas.{room_expected}
use Rattle.kept_tables.proofs.room.expect_line.Goals as goal

written : (c : goal.In_ok-expect) → slice_set c.slot_of.new.slots.items c.in_ok-place.place c.expect.new.self ≡ at_place c.in_ok-place.place (slot_for c.args.line.now) c.slot_of.new.slots.items
written c =
    let slot = c.index_mut-slot.result.now in
    let at = rw c.label.ensures at c.in_ok-place.ensures.place in
    put_back c.slot_of.new.slots.items c.in_ok-place.place slot c.expect.new.self (slot_for c.args.line.now) at.within c.index_mut-slot.ensures.value c.in_ok-expect.ensures.ok

pub returns-clause-order : goal.returns-clause-order
returns-clause-order c = rw (written c) (slots_stay (slot_for c.args.line.now) (λ s. refl) (λ s h. h) c.slot_of.new.slots.items c.in_ok-place.place c.in_ok-place.ensures.order)

pub returns-clause-tables : goal.returns-clause-tables
returns-clause-tables c =
    rw (written c, same_tables (slot_for c.args.line.now) c.slot_of.new.slots.items c.in_ok-place.place (λ s. refl) (λ s. refl) (λ s. refl)) c.in_ok-place.ensures.tables

pub returns-clause-memory : goal.returns-clause-memory
returns-clause-memory c = λ lines h.
    let at = rw c.label.ensures at c.in_ok-place.ensures.place in
    rw (written c) (room_expected c.args.line.now c.slot_of.new.slots.items c.in_ok-place.place c.index_mut-slot.result.now c.in_ok-place.ensures.order.labels at lines (c.in_ok-place.ensures.memory lines h))
