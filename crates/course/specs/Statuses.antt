-- The statuses that a command can give.
use Rattle.std.specs.Prelude.{Bool, true, false}
use Rattle.course.specs.declared.exit.Status.{Status}
use Rattle.course.specs.declared.exit.Status.TheVariants as status

-- the statuses that any command can give
abbrev pub can_always : Status → Bool
can_always status.WriteFault = true
can_always status.NoMemory = true
can_always s = false

abbrev pub can_check : Status → Bool
can_check status.Done = true
can_check status.BadDefinition = true
can_check status.ReadFault = true
can_check s = can_always s

abbrev pub can_show : Status → Bool
can_show status.BadCatalogue = true
can_show status.NoView = true
can_show s = can_check s

abbrev pub can_maintain : Status → Bool
can_maintain status.SomeRefused = true
can_maintain status.TooLong = true
can_maintain s = can_show s

abbrev pub can_apply : Status → Bool
can_apply status.BadCatalogue = true
can_apply status.TooLong = true
can_apply s = can_check s

abbrev pub can_load : Status → Bool
can_load status.Done = true
can_load s = can_always s

abbrev pub can_refuse : Status → Bool
can_refuse status.Usage = true
can_refuse s = can_always s
