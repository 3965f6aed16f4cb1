use Rattle.std.proofs.Common.{◌≡◌, ◌++◌, drop}
use Rattle.disk.specs.Disk.{filled_from, filled}
use Rattle.disk.proofs.mem_disk.filled.Given as goal

abbrev pub invariant-loop-i : goal.invariant-loop-i
invariant-loop-i l =
    l.image.items ++ filled_from l.fill (record { bytes = l.bytes; stable = l.stable; written = l.written }) l.i (drop l.i l.bytes)
    ≡ filled l.fill (record { bytes = l.bytes; stable = l.stable; written = l.written })
