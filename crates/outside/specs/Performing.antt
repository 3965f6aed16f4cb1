-- What a call does that changes files and folders, and reads none.
use Rattle.std.specs.Prelude.{◌≡◌, ◌≢◌, ◌≤◌, List, Result, IfErr}
use Rattle.outside.specs.States.{StoreState, SinkState}
use Rattle.outside.specs.Effects.{Effect, Does, Doing, contents, world_of}
use Rattle.outside.specs.Blame.{StoreBlames}
use Rattle.outside.specs.declared.stop.Stop.{Stop}
use Rattle.outside.specs.declared.stop.Stop.TheVariants as stop

-- these effects, or some of them where it stops, which no fault of reading is the cause of
pub record Performs {A : Type 0} (es : List Effect) (old new : StoreState) (r : Result A Stop) : Type 0 where
  pub does : (o : SinkState) → Does es (world_of old o) (world_of new o) r
  pub reads : new.read_faults ≡ old.read_faults
  pub no_read : IfErr r (λ e. e ≢ stop.ReadFault)
  pub blames : StoreBlames old new r

-- of all these effects those before the rest
pub record Performing (all rest : List Effect) (old now : StoreState) : Type 0 where
  pub doing : (o : SinkState) → Doing all rest (contents (world_of old o)) (contents (world_of now o))
  pub reads : now.read_faults ≡ old.read_faults
  pub writes : old.write_faults ≤ now.write_faults
