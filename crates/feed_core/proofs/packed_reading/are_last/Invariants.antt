use Rattle.std.proofs.Common.{◌≡◌, drop}
use Rattle.ss_text.specs.Texts.{row_eq}
use Rattle.feed_core.specs.Packed.{unpacked_row}
use Rattle.feed_core.proofs.packed_reading.are_last.Given as goal

abbrev pub invariant-loop-text : goal.invariant-loop-text
invariant-loop-text l = row_eq (drop l.text-index l.texts) (unpacked_row l.rest) ≡ row_eq l.texts (unpacked_row l.bytes)
