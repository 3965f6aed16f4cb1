-- Edits that are made whole or not at all.
use Rattle.std.proofs.Common.{◌≡◌, ◌≤◌, List, [], ◌∷◌, Option, Err, Ok, inl, inr, ap, arith}
use Rattle.outside.specs.Counts.{Rose}
use Rattle.outside.specs.States.{StoreState, SinkState}
use Rattle.outside.specs.Stored.{Stored, stored}
use Rattle.outside.specs.Edits.{AllMade, NoneOrAllMade}
use Rattle.outside.specs.declared.edit.Edit.{Edit}
use Rattle.outside.specs.Effects.{Replace, contents, after, Partly, world_of}
use Rattle.outside.specs.Performing.{Performs}
use Rattle.outside.specs.declared.stop.Stop.TheVariants as stop
use Rattle.outside.proofs.EffectLemmas.{unmoved}

-- they were made
done : (es : List Edit) (old new : StoreState) (o : SinkState) → AllMade es old new → contents (world_of new o) ≡ after (Replace es) (contents (world_of old o))
unfolding contents
done es old new o h = ap (λ (s : Option Stored). record { stored = s; held = o.held }) h

-- or none was
idle : (old new : StoreState) (o : SinkState) → stored new ≡ stored old → contents (world_of new o) ≡ contents (world_of old o)
unfolding contents
idle old new o h = ap (λ (s : Option Stored). record { stored = s; held = o.held }) h

partly : (es : List Edit) (old new : StoreState) (o : SinkState) → NoneOrAllMade es old new → Partly (Replace es ∷ []) (contents (world_of old o)) (contents (world_of new o))
unfolding Partly
partly es old new o h = elim h [ inl none ↦ inl (idle old new o none) | inr all ↦ inr (inr (done es old new o all)) ]

pub all_made : {A : Type 0} (es : List Edit) (old new : StoreState) (a : A) → AllMade es old new → new.read_faults ≡ old.read_faults → old.write_faults ≤ new.write_faults → Performs (Replace es ∷ []) old new (Ok a)
all_made es old new a h reads steady = record {
  does = λ o. done es old new o h;
  reads = reads;
  no_read = tt;
  blames = record { reads = omega (arith, reads); writes = steady; because = tt };
}

-- where it stops
module _ (es : List Edit) (old new : StoreState) where
  pub some_made : (A : Type 0) → NoneOrAllMade es old new → new.read_faults ≡ old.read_faults → old.write_faults ≤ new.write_faults → Rose old.write_faults new.write_faults → Performs {A = A} (Replace es ∷ []) old new (Err stop.WriteFault)
  some_made A h reads steady rose = record {
    does = λ o. partly es old new o h;
    reads = reads;
    no_read = λ is. absurd (cc);
    blames = record { reads = omega (arith, reads); writes = steady; because = rose };
  }

  pub none_made : (A : Type 0) → new.tree ≡ old.tree → new.writes ≡ old.writes → new.read_faults ≡ old.read_faults → old.write_faults ≤ new.write_faults → Performs {A = A} (Replace es ∷ []) old new (Err stop.NoMemory)
  none_made A t w reads steady = record {
    does = λ o. unmoved (Replace es ∷ []) old new o t w;
    reads = reads;
    no_read = λ is. absurd (cc);
    blames = record { reads = omega (arith, reads); writes = steady; because = tt };
  }
