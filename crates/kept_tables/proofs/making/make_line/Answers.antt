use Rattle.std.proofs.Common.{◌≡◌, sym, subst, true, slice_set}
use Rattle.ss_text.specs.Places.{at_place}
use Rattle.ss_text.proofs.PlaceLemmas.{put_back}
use Rattle.flow_law.specs.Lines.{fits_table}
use Rattle.kept_tables.specs.declared.slot.Held.{Held as Slot}
use Rattle.kept_tables.specs.Kept.{HasFor}
use Rattle.kept_tables.specs.Slots.{slot_after}
use Rattle.kept_tables.proofs.RoomLemmas.{has_for, room_left, slot_there}
use Rattle.kept_tables.proofs.MadeLemmas.{fits_slot, tables_made, slots_made}
use Rattle.kept_tables.proofs.making.make_line.Goals as goal

pub unreachable-requires : goal.unreachable-requires
unreachable-requires c =
    let gap = rw (c.deref.ensures.value, c.label.ensures) at c.in_default.ensures.absent in
    slot_there c.args.line _ c.args.slots.now.items c.in_default.field-0 c.requires.memory gap

pub make-requires-clause-fits : goal.make-requires-clause-fits
make-requires-clause-fits c =
    let slot = c.index_mut-slot.result.now in
    let at = rw (c.deref.ensures.value, c.label.ensures) at c.in-Ok.ensures.found in
    let fits = fits_slot c.args.line c.args.slots.now.items c.in-Ok.place slot c.requires.order at c.requires.fits in
    subst (λ (s : Slot). fits_table c.args.line s.table.table ≡ true) (sym c.index_mut-slot.ensures.value) fits.1

pub make-requires-clause-memory : goal.make-requires-clause-memory
make-requires-clause-memory c =
    let slot = c.index_mut-slot.result.now in
    let at = rw (c.deref.ensures.value, c.label.ensures) at c.in-Ok.ensures.found in
    subst (λ (s : Slot). HasFor c.args.line s.table) (sym c.index_mut-slot.ensures.value) (has_for c.args.line c.args.slots.now.items c.in-Ok.place slot c.requires.order.labels at _ c.requires.memory)

written : (c : goal.After-slots-1) → slice_set c.args.slots.now.items c.in-Ok.place c.make.new.self ≡ at_place c.in-Ok.place (slot_after c.args.line) c.args.slots.now.items
written c =
    let slot = c.index_mut-slot.result.now in
    let at = rw (c.deref.ensures.value, c.label.ensures) at c.in-Ok.ensures.found in
    put_back c.args.slots.now.items c.in-Ok.place slot c.make.new.self (slot_after c.args.line) at.within c.index_mut-slot.ensures.value c.make.ensures

pub returns-clause-order : goal.returns-clause-order
returns-clause-order c =
    let slot = c.index_mut-slot.result.now in
    let at = rw (c.deref.ensures.value, c.label.ensures) at c.in-Ok.ensures.found in
    let fits = fits_slot c.args.line c.args.slots.now.items c.in-Ok.place slot c.requires.order at c.requires.fits in
    rw (written c) (slots_made c.args.line c.args.slots.now.items c.in-Ok.place slot c.requires.order fits.0)

pub returns-clause-tables : goal.returns-clause-tables
returns-clause-tables c =
    let slot = c.index_mut-slot.result.now in
    let at = rw (c.deref.ensures.value, c.label.ensures) at c.in-Ok.ensures.found in
    let fits = fits_slot c.args.line c.args.slots.now.items c.in-Ok.place slot c.requires.order at c.requires.fits in
    rw (written c) (tables_made c.args.line c.args.slots.now.items c.in-Ok.place slot c.requires.order at fits.0)

pub returns-clause-memory : goal.returns-clause-memory
returns-clause-memory c = λ lines h.
    let slot = c.index_mut-slot.result.now in
    let at = rw (c.deref.ensures.value, c.label.ensures) at c.in-Ok.ensures.found in
    rw (written c) (room_left c.args.line c.args.slots.now.items c.in-Ok.place slot c.requires.order.labels at lines h)
