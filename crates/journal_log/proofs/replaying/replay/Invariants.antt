use Rattle.std.proofs.Common.{◌≡◌, ◌-◌, ◌≤◌}
use Rattle.disk.specs.Moments.{Elapses}
use Rattle.change_journal.specs.Opening.{IsReading}
use Rattle.journal_log.specs.Replay.{Replaying}
use Rattle.journal_log.proofs.replaying.replay.Given as goal

abbrev pub invariant-replaying : goal.invariant-replaying
invariant-replaying g l =
    let state = g.D.Disk.state in
    let left_since = g.D.Disk.left_since in
    record {
      reading : IsReading l.entries (state l.disk).content;
      replaying : Replaying l.fn.catalogue.databases l.catalogue.databases l.count l.entries (state l.disk).content;
      content : (state l.disk).content ≡ (state l.fn.disk).content;
      time : Elapses (state l.fn.disk) (state l.disk) (left_since l.fn.disk) (left_since l.disk);
      steady : (state l.fn.disk).faults ≤ (state l.disk).faults;
    }

abbrev pub decreases-replaying : goal.decreases-replaying
decreases-replaying g l = l.entries.size - l.entries.place
