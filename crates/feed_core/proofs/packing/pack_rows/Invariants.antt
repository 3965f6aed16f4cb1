use Rattle.std.proofs.Common.{◌≡◌, take}
use Rattle.feed_core.specs.Packed.{packed_rows}
use Rattle.feed_core.proofs.packing.pack_rows.Given as goal

abbrev pub invariant-loop-row : goal.invariant-loop-row
invariant-loop-row l = l.bytes.items ≡ packed_rows (take l.row-index l.rows)
