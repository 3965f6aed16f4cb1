use Rattle.std.proofs.Common.{◌≡◌, refl, slice_set}
use Rattle.ss_text.specs.Places.{at_place}
use Rattle.ss_text.proofs.PlaceLemmas.{put_back}
use Rattle.kept_tables.specs.Slots.{slot_without}
use Rattle.kept_tables.proofs.SlotLemmas.{same_tables, slots_stay}
use Rattle.kept_tables.proofs.room.forget_label.Goals as goal

written : (c : goal.After-slots-1) → slice_set c.args.slots.now.items c.in-Ok.place c.forget.new.self ≡ at_place c.in-Ok.place slot_without c.args.slots.now.items
written c =
    let slot = c.index_mut-slot.result.now in
    let at = rw c.deref.ensures.value at c.in-Ok.ensures.found in
    put_back c.args.slots.now.items c.in-Ok.place slot c.forget.new.self slot_without at.within c.index_mut-slot.ensures.value c.forget.ensures

pub returns-clause-order : goal.returns-clause-order
returns-clause-order c = rw (written c) (slots_stay slot_without (λ s. refl) (λ s h. h) c.args.slots.now.items c.in-Ok.place c.requires)

pub returns-clause-tables : goal.returns-clause-tables
returns-clause-tables c = rw (written c) (same_tables slot_without c.args.slots.now.items c.in-Ok.place (λ s. refl) (λ s. refl) (λ s. refl))
