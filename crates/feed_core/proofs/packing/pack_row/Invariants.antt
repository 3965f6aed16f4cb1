use Rattle.std.proofs.Common.{◌≡◌, take}
use Rattle.feed_core.specs.Packed.{packed_row}
use Rattle.feed_core.proofs.packing.pack_row.Given as goal

abbrev pub invariant-loop-text : goal.invariant-loop-text
invariant-loop-text l = l.bytes.items ≡ packed_row (take l.text-index l.texts)
