-- The statuses that `journal` can give.
use Rattle.std.specs.Prelude.{Bool, true}
use Rattle.course.specs.declared.exit.Status.{Status}
use Rattle.course.specs.declared.exit.Status.TheVariants as status
use Rattle.course.specs.Statuses.{can_maintain}

-- those of `maintain`, and those of its disk
abbrev pub can_journal : Status → Bool
can_journal status.DiskFault = true
can_journal status.JournalFull = true
can_journal s = can_maintain s
