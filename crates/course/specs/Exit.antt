-- The exit status of the program.
use Rattle.std.specs.Prelude.{ℕ}
use Rattle.course.specs.declared.exit.Status.{Status}
use Rattle.course.specs.declared.exit.Status.TheVariants as status

-- the number of a status
abbrev pub exit_number : Status → ℕ
exit_number status.Done = 0
exit_number status.SomeRefused = 1
exit_number status.Usage = 2
exit_number status.BadDefinition = 3
exit_number status.BadCatalogue = 4
exit_number status.NoView = 5
exit_number status.ReadFault = 6
exit_number status.WriteFault = 7
exit_number status.NoMemory = 8
exit_number status.TooLong = 9
exit_number status.DiskFault = 10
exit_number status.JournalFull = 11
