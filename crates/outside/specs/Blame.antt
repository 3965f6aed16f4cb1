-- When a run may stop.
use Rattle.std.specs.Prelude.{◌≤◌, ◌⊎◌, Result, Ok, Err, ⊤}
use Rattle.outside.specs.Counts.{Rose}
use Rattle.outside.specs.States.{StoreState, SinkState}
use Rattle.outside.specs.Effects.{World}
use Rattle.outside.specs.declared.stop.Stop.{Stop}
use Rattle.outside.specs.declared.stop.Stop.TheVariants as stop

-- no count of faults fell
pub record Steady (old new : World) : Type 0 where
  pub reads : old.store.read_faults ≤ new.store.read_faults
  pub writes : old.store.write_faults ≤ new.store.write_faults
  pub prints : old.output.faults ≤ new.output.faults

-- a count that rose is the cause of a stop
abbrev pub StopCause : Stop → World → World → Type 0
StopCause stop.ReadFault old new = Rose old.store.read_faults new.store.read_faults
StopCause stop.WriteFault old new = Rose old.store.write_faults new.store.write_faults ⊎ Rose old.output.faults new.output.faults
StopCause stop.NoMemory old new = ⊤

abbrev pub Because : {A : Type 0} → Result A Stop → World → World → Type 0
Because (Ok a) old new = ⊤
Because (Err e) old new = StopCause e old new

-- only calls that failed stop it
pub record Blames {A : Type 0} (old new : World) (r : Result A Stop) : Type 0 where
  pub steady : Steady old new
  pub because : Because r old new

-- the same of a call on the store alone
abbrev pub StoreStop : Stop → StoreState → StoreState → Type 0
StoreStop stop.ReadFault old new = Rose old.read_faults new.read_faults
StoreStop stop.WriteFault old new = Rose old.write_faults new.write_faults
StoreStop stop.NoMemory old new = ⊤

abbrev pub StoreCause : {A : Type 0} → Result A Stop → StoreState → StoreState → Type 0
StoreCause (Ok a) old new = ⊤
StoreCause (Err e) old new = StoreStop e old new

pub record StoreBlames {A : Type 0} (old new : StoreState) (r : Result A Stop) : Type 0 where
  pub reads : old.read_faults ≤ new.read_faults
  pub writes : old.write_faults ≤ new.write_faults
  pub because : StoreCause r old new

-- and of a call on the sink alone
abbrev pub SinkStop : Stop → SinkState → SinkState → Type 0
SinkStop stop.ReadFault old new = ⊥
SinkStop stop.WriteFault old new = Rose old.faults new.faults
SinkStop stop.NoMemory old new = ⊤

abbrev pub SinkCause : {A : Type 0} → Result A Stop → SinkState → SinkState → Type 0
SinkCause (Ok a) old new = ⊤
SinkCause (Err e) old new = SinkStop e old new

pub record SinkBlames {A : Type 0} (old new : SinkState) (r : Result A Stop) : Type 0 where
  pub prints : old.faults ≤ new.faults
  pub because : SinkCause r old new
