use Rattle.std.proofs.Common.{◌≡◌, ◌++◌, length}
use Rattle.feed_core.specs.Packed.{unpacked_row}
use Rattle.feed_core.proofs.packed_reading.unpack_row.Given as goal

abbrev pub invariant-loop-rest : goal.invariant-loop-rest
invariant-loop-rest l = l.texts.items ++ unpacked_row l.rest ≡ unpacked_row l.bytes

abbrev pub decreases-loop-rest : goal.decreases-loop-rest
decreases-loop-rest l = length l.rest
