-- Runs that changed nothing, and steps that did nothing.
use Rattle.std.specs.Prelude.{◌≡◌, Result, Ok, Err}
use Rattle.outside.specs.Effects.{World}
use Rattle.outside.specs.declared.stop.Stop.{Stop}
use Rattle.outside.specs.declared.stop.Stop.TheVariants as stop
use Rattle.outside.specs.Reading.{OnlyRead}
use Rattle.course.specs.declared.status.Verdict.{Verdict}
use Rattle.course.specs.declared.status.Halt.{Halt}
use Rattle.course.specs.declared.status.Halt.TheVariants as halt

-- no file and no folder was changed, and nothing was written or removed
pub record Unchanged (old new : World) : Type 0 where
  pub tree : new.store.tree ≡ old.store.tree
  pub writes : new.store.writes ≡ old.store.writes

-- nothing was done: the store was only read, and nothing was printed
pub record Idle (old new : World) : Type 0 where
  pub store : OnlyRead old.store new.store
  pub output : new.output ≡ old.output

-- a step that stopped as the store could not be read did nothing
abbrev pub IdleStop : Stop → World → World → Type 0
IdleStop stop.ReadFault old new = Idle old new
IdleStop e old new = Unit {0}

abbrev pub IdleUnread : {A : Type 0} → Result A Stop → World → World → Type 0
IdleUnread (Ok a) old new = Unit {0}
IdleUnread (Err e) old new = IdleStop e old new

-- and so did a whole run
abbrev pub IdleRun : Result Verdict Halt → World → World → Type 0
IdleRun (Err (halt.Stopped e)) old new = IdleStop e old new
IdleRun r old new = Unit {0}
