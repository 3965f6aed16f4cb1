-- Steps that stopped as the store could not be read, and the verdicts that a command can give.
use Rattle.std.proofs.Common.{◌≡◌, ◌≢◌, true, refl}
use Rattle.std.specs.Prelude.{Result, Ok, Err, IfErr, IsErrOf}
use Rattle.outside.specs.States.{StoreState, SinkState}
use Rattle.outside.specs.Reading.{OnlyRead}
use Rattle.outside.proofs.ReadingLemmas.{only_read_then}
use Rattle.outside.specs.Effects.{World, world_of, contents}
use Rattle.outside.specs.Blame.{SinkBlames}
use Rattle.outside.specs.declared.stop.Stop.{Stop}
use Rattle.outside.specs.declared.stop.Stop.TheVariants as stop
use Rattle.course.specs.declared.status.Verdict.{Verdict}
use Rattle.course.specs.declared.status.Verdict.TheVariants as verdict
use Rattle.course.specs.declared.status.Halt.{Halt}
use Rattle.course.specs.declared.status.Halt.TheVariants as halt
use Rattle.course.specs.Statuses.{can_show}
use Rattle.course.specs.Course.{verdict_status, is_refused_status}
use Rattle.course.specs.Idle.{Idle, IdleStop, IdleRun}

pub idle_read : (old new : StoreState) (o : SinkState) (e : Stop) → OnlyRead old new → IdleStop e (world_of old o) (world_of new o)
idle_read old new o stop.ReadFault h = record { store = h; output = refl }
idle_read old new o stop.WriteFault h = tt
idle_read old new o stop.NoMemory h = tt

pub idle_first : {A : Type 0} (old new : StoreState) (o : SinkState) (e : Stop) → (IsErrOf {T = A} (Err e) stop.ReadFault → OnlyRead old new) → IdleStop e (world_of old o) (world_of new o)
idle_first old new o stop.ReadFault h = record { store = h refl; output = refl }
idle_first old new o stop.WriteFault h = tt
idle_first old new o stop.NoMemory h = tt

pub idle_print : {A : Type 0} (w : World) (s : StoreState) (old new : SinkState) (e : Stop) → SinkBlames {A = A} old new (Err e) → IdleStop e w (world_of s new)
idle_print w s old new stop.ReadFault b = absurd (b.because)
idle_print w s old new stop.WriteFault b = tt
idle_print w s old new stop.NoMemory b = tt

pub idle_later : (a b c : StoreState) (o p : SinkState) (e : Stop) → OnlyRead a b → IdleStop e (world_of b o) (world_of c p) → IdleStop e (world_of a o) (world_of c p)
idle_later a b c o p stop.ReadFault h i = record { store = only_read_then a b c h i.store; output = i.output }
idle_later a b c o p stop.WriteFault h i = tt
idle_later a b c o p stop.NoMemory h i = tt

-- a run that answers lines reads nothing
pub idle_drove : (r : Result Verdict Halt) (w v : World) → IfErr r (λ e. e ≢ halt.Stopped stop.ReadFault) → IdleRun r w v
idle_drove (Ok verdict) w v h = tt
idle_drove (Err halt.InputFault) w v h = tt
idle_drove (Err halt.TooLong) w v h = tt
idle_drove (Err halt.DiskFault) w v h = tt
idle_drove (Err (halt.Stopped stop.ReadFault)) w v h = absurd (h refl)
idle_drove (Err (halt.Stopped stop.WriteFault)) w v h = tt
idle_drove (Err (halt.Stopped stop.NoMemory)) w v h = tt

-- where nothing was done, all is there as it was
pub idle_contents : (w v : World) → Idle w v → contents v ≡ contents w
unfolding contents
idle_contents w v h = rw (h.store.tree, h.store.writes, h.output) refl

-- the verdicts of `show` and `verify`
pub refused_can_show : (v : Verdict) → is_refused_status (verdict_status v) ≡ true → can_show (verdict_status v) ≡ true
refused_can_show verdict.Done h = refl
refused_can_show verdict.SomeRefused h = absurd (cc)
refused_can_show verdict.Usage h = absurd (cc)
refused_can_show verdict.BadDefinition h = refl
refused_can_show verdict.BadCatalogue h = refl
refused_can_show verdict.NoView h = refl
refused_can_show verdict.JournalFull h = absurd (cc)
