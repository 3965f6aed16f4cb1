-- The entries of a journal on a disk, as a run sees them, and what an append keeps of them.
use Rattle.std.specs.Prelude.{◌≡◌, ℕ, false, List, ◌++◌, Result, Ok, Err}
use Rattle.disk.specs.Disk.{DiskState}
use Rattle.course.specs.Keeping.{Entry, Log, LeavesNow, LeavesFrontNow, LeavesFronts}
use Rattle.course.specs.declared.status.LineStop.{LineStop}
use Rattle.change_journal.specs.Entries.{entries}
use Rattle.change_journal.specs.Journals.{IsOpenAt}
use Rattle.change_journal.specs.Lines.{read_lines}
use Rattle.change_journal.specs.States.{JournalState}

-- a disk as the log of its journal, by what is known of it and what a crash may have left
abbrev pub log_of : {D : Type 0} → (D → DiskState) → (D → ℕ → List ℕ → Type 0) → Log D
log_of state left_since = record { moment = λ d. (state d).moment; left_since = left_since; faults = λ d. (state d).faults; reads = λ bytes. read_lines (entries bytes) }

-- the journal is open, and ends where that of the disk does
pub record IsReady (journal : JournalState) (disk : DiskState) : Type 0 where
  pub is_open : journal.is_shut ≡ false
  pub ends : IsOpenAt journal.end disk.content

-- a call that does nothing but keep entries: all of them where it ended, and else a front
abbrev pub KeptFirst : {A D : Type 0} → Log D → List Entry → List Entry → D → Result A LineStop → Type 0
KeptFirst log es notes new (Ok a) = LeavesNow log (es ++ notes) new
KeptFirst log es notes new (Err e) = LeavesFrontNow log es notes new

pub record KeepsFirst {A D : Type 0} (log : Log D) (es notes : List Entry) (old new : D) (r : Result A LineStop) : Type 0 where
  pub fronts : LeavesFronts log es notes old new
  pub kept : KeptFirst log es notes new r
