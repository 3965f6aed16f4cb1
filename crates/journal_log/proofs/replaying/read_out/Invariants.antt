use Rattle.std.proofs.Common.{◌≡◌, ◌-◌, ◌≤◌, ◌++◌, List}
use Rattle.disk.specs.Moments.{Elapses}
use Rattle.change_journal.specs.Spelled.{Group}
use Rattle.change_journal.specs.Opening.{IsReading, HasRead}
use Rattle.journal_log.proofs.replaying.read_out.Given as goal

abbrev pub invariant-reading : goal.invariant-reading
invariant-reading g l =
    let state = g.D.Disk.state in
    let left_since = g.D.Disk.left_since in
    record {
      reading : IsReading l.entries (state l.disk).content;
      read : (groups : List Group) → HasRead groups l.fn.entries (state l.fn.disk).content → (more : List Group) × HasRead (groups ++ more) l.entries (state l.disk).content;
      content : (state l.disk).content ≡ (state l.fn.disk).content;
      time : Elapses (state l.fn.disk) (state l.disk) (left_since l.fn.disk) (left_since l.disk);
      steady : (state l.fn.disk).faults ≤ (state l.disk).faults;
    }

abbrev pub decreases-reading : goal.decreases-reading
decreases-reading g l = l.entries.size - l.entries.place
