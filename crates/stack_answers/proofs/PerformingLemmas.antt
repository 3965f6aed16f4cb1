-- Calls that change files, one behind the other.
use Rattle.std.proofs.Common.{◌∙◌, ◌≤◌, List, [], ◌++◌, refl, arith}
use Rattle.std.specs.Prelude.{Result, Ok, Err}
use Rattle.outside.specs.States.{StoreState}
use Rattle.outside.specs.Effects.{Effect, world_of, contents}
use Rattle.outside.specs.Blame.{StoreCause}
use Rattle.outside.specs.Performing.{Performs}
use Rattle.outside.specs.declared.stop.Stop.{Stop}
use Rattle.outside.specs.declared.stop.Stop.TheVariants as stop
use Rattle.outside.proofs.EffectLemmas.{partly_more}
use Rattle.course.proofs.FrontLemmas.{partly_whole}
use Rattle.opened_view.proofs.AnswerLemmas.{behind}

-- nothing
pub performs_none : {A : Type 0} (s : StoreState) (a : A) → Performs [] s s (Ok a)
performs_none s a = record { does = λ o. refl; reads = refl; no_read = tt; blames = record { reads = omega arith; writes = omega arith; because = tt } }

-- the cause of a stop behind a call that ended
pub later_cause : {B : Type 0} (a b c : StoreState) (r : Result B Stop) → a.read_faults ≤ b.read_faults → a.write_faults ≤ b.write_faults → StoreCause r b c → StoreCause r a c
later_cause a b c (Ok y) reads writes h = tt
later_cause a b c (Err stop.ReadFault) reads writes h = omega (arith, reads, h)
later_cause a b c (Err stop.WriteFault) reads writes h = omega (arith, writes, h)
later_cause a b c (Err stop.NoMemory) reads writes h = tt

module _ {A B : Type 0} where
  -- the same, whatever is answered
  pub performs_done : (es : List Effect) (old new : StoreState) (a : A) (b : B) → Performs es old new (Ok a) → Performs es old new (Ok b)
  performs_done es old new a b p = record { does = p.does; reads = p.reads; no_read = tt; blames = record { reads = p.blames.reads; writes = p.blames.writes; because = tt } }

  pub performs_stopped : (es : List Effect) (old new : StoreState) (e : Stop) → Performs {A = A} es old new (Err e) → Performs {A = B} es old new (Err e)
  performs_stopped es old new e p = record { does = p.does; reads = p.reads; no_read = p.no_read; blames = record { reads = p.blames.reads; writes = p.blames.writes; because = p.blames.because } }

  -- all was done, and then there was no memory
  pub performs_lacking : (es : List Effect) (old new : StoreState) (a : A) → Performs es old new (Ok a) → Performs {A = B} es old new (Err stop.NoMemory)
  performs_lacking es old new a p = record {
    does = λ o. partly_whole es (contents (world_of old o)) (contents (world_of new o)) (p.does o);
    reads = p.reads;
    no_read = λ e. absurd (cc);
    blames = record { reads = p.blames.reads; writes = p.blames.writes; because = tt };
  }

  -- the first of two stopped
  pub performs_front : (es fs : List Effect) (old new : StoreState) (e : Stop) → Performs {A = A} es old new (Err e) → Performs {A = B} (es ++ fs) old new (Err e)
  performs_front es fs old new e p = record {
    does = λ o. partly_more es fs (contents (world_of old o)) (contents (world_of new o)) (p.does o);
    reads = p.reads;
    no_read = p.no_read;
    blames = record { reads = p.blames.reads; writes = p.blames.writes; because = p.blames.because };
  }

  -- or the second ended
  pub performs_both : (es fs : List Effect) (a b c : StoreState) (x : A) (r : Result B Stop) → Performs es a b (Ok x) → Performs fs b c r → Performs (es ++ fs) a c r
  performs_both es fs a b c x r p q = record {
    does = λ o. behind es fs (world_of a o) (world_of b o) (world_of c o) r (p.does o) (q.does o);
    reads = q.reads ∙ p.reads;
    no_read = q.no_read;
    blames = record { reads = omega (arith, p.blames.reads, q.blames.reads); writes = omega (arith, p.blames.writes, q.blames.writes); because = later_cause a b c r p.blames.reads p.blames.writes q.blames.because };
  }
