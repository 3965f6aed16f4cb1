use Rattle.std.proofs.Common.{rules}
use Rattle.std.proofs.lemmas.List.Elements.{filter_from_retain}
use Rattle.kept_tables.specs.declared.slot.Held.{Held as Slot}
use Rattle.kept_tables.proofs.SlotLemmas.{slots_kept, tables_kept}
use Rattle.kept_tables.proofs.slot.drop_gone.Goals as goal

pub returns : goal.returns
returns c =
    let kept = filter_from_retain _ (λ (s : Slot). s.there) (λ p x b q h. search rules) _ _ _ c.retain.ensures.filtered in
    record { order = rw kept (slots_kept (λ (s : Slot). s.there) c.args.slots.now.items c.requires); tables = rw kept (tables_kept c.args.slots.now.items) }
