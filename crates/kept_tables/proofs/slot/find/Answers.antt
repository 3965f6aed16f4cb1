use Rattle.std.proofs.Common.{rules}
use Rattle.std.proofs.lemmas.Fn.{always_returns_same}
use Rattle.ss_text.specs.Texts.{text_cmp}
use Rattle.ss_text.proofs.KeyLemmas.{text_order, searched}
use Rattle.kept_tables.specs.declared.slot.Held.{Held as Slot}
use Rattle.kept_tables.specs.Slots.{slot_label}
use Rattle.kept_tables.proofs.slot.find.Goals as goal

pub returns : goal.returns
returns c =
    let facts = c.binary_search_by.ensures in
    let by_label = facts.position (λ (s : Slot). text_cmp s.label c.args.label.now) (always_returns_same _ _ _ (λ a r g called. search rules)) in
    let answer = searched text_order slot_label c.args.label.now c.args.slots.now c.binary_search_by.result c.requires.labels facts.bound by_label in
    record { found = answer.found; absent = answer.absent }
