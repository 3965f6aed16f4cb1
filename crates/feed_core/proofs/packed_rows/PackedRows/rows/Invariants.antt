use Rattle.std.proofs.Common.{◌≡◌, map, take}
use Rattle.feed_core.specs.Packed.{unpacked_row}
use Rattle.feed_core.proofs.packed_rows.PackedRows.rows.Given as goal

abbrev pub invariant-loop-row : goal.invariant-loop-row
invariant-loop-row l = l.rows.items ≡ map unpacked_row (take l.row-index l.row-items)
