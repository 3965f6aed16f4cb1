-- What was done by a run with a disk, by its status.
use Rattle.std.proofs.Common.{◌≡◌, ℕ, true, List, Option, inl, inr}
use Rattle.std.specs.Prelude.{Result, Ok, Err}
use Rattle.tab_lines.specs.Lines.{lines_of}
use Rattle.outside.specs.Effects.{World}
use Rattle.outside.specs.declared.stop.Stop.TheVariants as stop
use Rattle.course.specs.declared.status.Verdict.{Verdict}
use Rattle.course.specs.declared.status.Verdict.TheVariants as verdict
use Rattle.course.specs.declared.status.Halt.{Halt}
use Rattle.course.specs.declared.status.Halt.TheVariants as halt
use Rattle.course.specs.Answering.{BlamesRun}
use Rattle.course.specs.declared.exit.Status.{Status}
use Rattle.course.specs.declared.exit.Status.TheVariants as status
use Rattle.course.specs.Course.{Course, GaveOut, GaveOutStatus, Finished, is_done_status, status_of}
use Rattle.course.specs.Idle.{IdleRun}
use Rattle.course.proofs.RunLemmas.{by_status}
use Rattle.journal_answers.specs.Kept.{RanOver}
use Rattle.journal_law.specs.Law.{JournalDid}

module _ (c : Course) (bytes : List ℕ) (rest : Option (List ℕ)) (old new : World) where
  -- the table of statuses
  pub journal_did : (i j : ℕ) (r : Result Verdict Halt) → RanOver c bytes rest old new r → BlamesRun i j old new r → IdleRun r old new → JournalDid c bytes rest old new (status_of r)
  journal_did i j (Ok verdict.Done) h b idle = by_status c bytes rest old new i j (Ok verdict.Done) h b idle
  journal_did i j (Ok verdict.SomeRefused) h b idle = by_status c bytes rest old new i j (Ok verdict.SomeRefused) h b idle
  journal_did i j (Ok verdict.Usage) h b idle = by_status c bytes rest old new i j (Ok verdict.Usage) h b idle
  journal_did i j (Ok verdict.BadDefinition) h b idle = by_status c bytes rest old new i j (Ok verdict.BadDefinition) h b idle
  journal_did i j (Ok verdict.BadCatalogue) h b idle = by_status c bytes rest old new i j (Ok verdict.BadCatalogue) h b idle
  journal_did i j (Ok verdict.NoView) h b idle = by_status c bytes rest old new i j (Ok verdict.NoView) h b idle
  journal_did i j (Ok verdict.JournalFull) h b idle = by_status c bytes rest old new i j (Ok verdict.JournalFull) h b idle
  journal_did i j (Err halt.InputFault) h b idle = by_status c bytes rest old new i j (Err halt.InputFault) h b idle
  journal_did i j (Err halt.TooLong) h b idle = by_status c bytes rest old new i j (Err halt.TooLong) h b idle
  journal_did i j (Err halt.DiskFault) h b idle = h
  journal_did i j (Err (halt.Stopped stop.ReadFault)) h b idle = by_status c bytes rest old new i j (Err (halt.Stopped stop.ReadFault)) h b idle
  journal_did i j (Err (halt.Stopped stop.WriteFault)) h b idle = by_status c bytes rest old new i j (Err (halt.Stopped stop.WriteFault)) h b idle
  journal_did i j (Err (halt.Stopped stop.NoMemory)) h b idle = by_status c bytes rest old new i j (Err (halt.Stopped stop.NoMemory)) h b idle

  -- a run that was done finished
  pub journal_done : (s : Status) → is_done_status s ≡ true → JournalDid c bytes rest old new s → Finished (c.whole (lines_of bytes)) old new s
  journal_done status.Done e h = h
  journal_done status.SomeRefused e h = h
  journal_done status.Usage e h = absurd (cc e)
  journal_done status.BadDefinition e h = absurd (cc e)
  journal_done status.BadCatalogue e h = absurd (cc e)
  journal_done status.NoView e h = absurd (cc e)
  journal_done status.ReadFault e h = absurd (cc e)
  journal_done status.WriteFault e h = absurd (cc e)
  journal_done status.NoMemory e h = absurd (cc e)
  journal_done status.TooLong e h = absurd (cc e)
  journal_done status.DiskFault e h = absurd (cc e)
  journal_done status.JournalFull e h = absurd (cc e)

  -- and one whose input gave out did what the bytes taken ask for
  pub journal_gave_out : (s : Status) → GaveOutStatus old new s → JournalDid c bytes rest old new s → GaveOut c bytes rest old new
  journal_gave_out status.ReadFault gave h = elim h [ inl read ↦ absurd (gave read.0) | inr g ↦ g ]
  journal_gave_out status.TooLong gave h = h.0
  journal_gave_out status.Done gave h = absurd gave
  journal_gave_out status.SomeRefused gave h = absurd gave
  journal_gave_out status.Usage gave h = absurd gave
  journal_gave_out status.BadDefinition gave h = absurd gave
  journal_gave_out status.BadCatalogue gave h = absurd gave
  journal_gave_out status.NoView gave h = absurd gave
  journal_gave_out status.WriteFault gave h = absurd gave
  journal_gave_out status.NoMemory gave h = absurd gave
  journal_gave_out status.DiskFault gave h = absurd gave
  journal_gave_out status.JournalFull gave h = absurd gave
