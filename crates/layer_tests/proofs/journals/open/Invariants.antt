use Rattle.std.proofs.Common.{◌-◌, List}
use Rattle.change_journal.specs.Spelled.{Group}
use Rattle.change_journal.specs.Opening.{IsReading, HasRead}
use Rattle.layer_tests.proofs.journals.open.Given as goal

abbrev pub invariant-reading : goal.invariant-reading
invariant-reading g l =
    let content = (g.D.Disk.state l.disk).content in
    IsReading l.entries content × ((groups : List Group) × HasRead groups l.entries content)

abbrev pub decreases-reading : goal.decreases-reading
decreases-reading g l = l.entries.size - l.entries.place
