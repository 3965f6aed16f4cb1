-- Counts of faults, call by call.
use Rattle.std.proofs.Common.{arith, inl, inr}
use Rattle.std.specs.Prelude.{Result, Ok, Err, ◌≢◌}
use Rattle.outside.specs.States.{StoreState, SinkState}
use Rattle.outside.specs.Effects.{World, world_of}
use Rattle.outside.specs.Blame.{Steady, StopCause, StoreStop, SinkStop, Blames, StoreBlames, SinkBlames}
use Rattle.outside.specs.declared.stop.Stop.{Stop}
use Rattle.outside.specs.declared.stop.Stop.TheVariants as stop

pub steady_none : (w : World) → Steady w w
steady_none w = record { reads = omega arith; writes = omega arith; prints = omega arith }

pub steady_store : {A : Type 0} (w : World) (old new : StoreState) (o : SinkState) (r : Result A Stop) → Steady w (world_of old o) → StoreBlames old new r → Steady w (world_of new o)
steady_store w old new o r s b = record { reads = omega (arith, s.reads, b.reads); writes = omega (arith, s.writes, b.writes); prints = s.prints }

pub steady_sheet : {A : Type 0} (w : World) (s : StoreState) (old new : SinkState) (r : Result A Stop) → Steady w (world_of s old) → SinkBlames old new r → Steady w (world_of s new)
steady_sheet w s old new r h b = record { reads = h.reads; writes = h.writes; prints = omega (arith, h.prints, b.prints) }

store_cause : (w : World) (old new : StoreState) (o : SinkState) (e : Stop) → Steady w (world_of old o) → StoreStop e old new → StopCause e w (world_of new o)
store_cause w old new o stop.ReadFault s c = omega (arith, s.reads, c)
store_cause w old new o stop.WriteFault s c = inl (omega (arith, s.writes, c))
store_cause w old new o stop.NoMemory s c = tt

sheet_cause : (w : World) (s : StoreState) (old new : SinkState) (e : Stop) → Steady w (world_of s old) → SinkStop e old new → StopCause e w (world_of s new)
sheet_cause w s old new stop.ReadFault h c = absurd c
sheet_cause w s old new stop.WriteFault h c = inr (omega (arith, h.prints, c))
sheet_cause w s old new stop.NoMemory h c = tt

pub store_blamed : (A B : Type 0) (w : World) (old new : StoreState) (o : SinkState) (e : Stop) → Steady w (world_of old o) → StoreBlames {A = A} old new (Err e) → Blames {A = B} w (world_of new o) (Err e)
store_blamed A B w old new o e s b = record { steady = steady_store w old new o (Err e) s b; because = store_cause w old new o e s b.because }

pub sheet_blamed : (A B : Type 0) (w : World) (s : StoreState) (old new : SinkState) (e : Stop) → Steady w (world_of s old) → SinkBlames {A = A} old new (Err e) → Blames {A = B} w (world_of s new) (Err e)
sheet_blamed A B w s old new e h b = record { steady = steady_sheet w s old new (Err e) h b; because = sheet_cause w s old new e h b.because }

pub no_blame : {A : Type 0} (w v : World) (a : A) → Steady w v → Blames w v (Ok a)
no_blame w v a s = record { steady = s; because = tt }

-- a call on the sink does not fail in reading
pub sink_no_read : {A : Type 0} (old new : SinkState) (e : Stop) → SinkBlames {A = A} old new (Err e) → e ≢ stop.ReadFault
sink_no_read old new stop.ReadFault b is = b.because
sink_no_read old new stop.WriteFault b is = absurd (cc)
sink_no_read old new stop.NoMemory b is = absurd (cc)
