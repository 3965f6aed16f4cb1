use Rattle.std.proofs.Common.{◌≡◌, ◌∷◌, ◌++◌, map, drop, Bor}
use Rattle.ss_text.specs.Texts.{Text, row_eq}
use Rattle.feed_core.specs.Packed.{unpacked_row}
use Rattle.feed_core.proofs.packed_reading.are_packed.Given as goal

abbrev pub invariant-loop-text : goal.invariant-loop-text
invariant-loop-text l =
    row_eq (map (λ (t : Bor Text). t.now) (drop l.text-index l.texts) ++ l.more) (unpacked_row l.rest)
    ≡ row_eq (l.word ∷ (map (λ (t : Bor Text). t.now) l.texts ++ l.more)) (unpacked_row l.bytes)
