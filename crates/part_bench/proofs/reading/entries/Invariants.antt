use Rattle.std.proofs.Common.{◌-◌}
use Rattle.change_journal.specs.Opening.{IsReading}
use Rattle.part_bench.proofs.reading.entries.Given as goal

abbrev pub invariant-reading : goal.invariant-reading
invariant-reading g l = IsReading l.entries (g.D.Disk.state l.disk).content

abbrev pub decreases-reading : goal.decreases-reading
decreases-reading g l = l.entries.size - l.entries.place
