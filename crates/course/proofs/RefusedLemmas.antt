-- A run that ended with a refusal came to its end.
use Rattle.std.proofs.Common.{◌≡◌, true, false, Option, Some, sym, ap, ◌∙◌}
use Rattle.std.specs.Prelude.{Result, Ok, Err}
use Rattle.std.proofs.lemmas.Bool.{false≢true}
use Rattle.outside.specs.Tree.{Tree}
use Rattle.outside.specs.Effects.{World, contents, stored_of}
use Rattle.course.specs.declared.status.Verdict.{Verdict}
use Rattle.course.specs.Answering.{Ending, Ended, EndedOver}
use Rattle.course.specs.declared.status.Halt.{Halt}
use Rattle.course.specs.declared.status.Halt.TheVariants as halt
use Rattle.outside.specs.declared.stop.Stop.TheVariants as stop
use Rattle.course.specs.declared.exit.Status.{Status}
use Rattle.course.specs.Course.{Finished, verdict_status, status_of, is_refused_status}
use Rattle.course.specs.Idle.{Unchanged}
use Rattle.course.proofs.ToldLemmas.{told_tree}

module _ (t : Tree) (old new : World) (told : old.store.tree ≡ Some t) (s : Status) (refused : is_refused_status s ≡ true) where
  pub same_stored : (contents new).stored ≡ (contents old).stored → Unchanged old new
  unfolding contents
  same_stored h =
      let stored = told_tree new.store.tree new.store.writes (record { tree = t; writes = old.store.writes }) (h ∙ ap (λ (o : Option Tree). stored_of o old.store.writes) told) in
      record { tree = stored.0 ∙ sym told; writes = stored.1 }

  pub not_so : {A : Type 0} (v : Verdict) → s ≡ verdict_status v → is_refused_status (verdict_status v) ≡ false → A
  not_so v e h = absurd (false≢true (sym h ∙ ap is_refused_status (sym e) ∙ refused))

-- nothing is changed where a run is refused
module _ (old new : World) (r : Result Verdict Halt) (refused : is_refused_status (status_of r) ≡ true) where
  refused_ended : (e : Ending) (v : Verdict) → r ≡ Ok v → Ended e old new (Ok v) → Finished e old new (status_of r)
  refused_ended e v is h = record { status = ap status_of is ∙ ap verdict_status h.1; done = h.0 }

  pub some_refused : (e : Ending) (x : Result Verdict Halt) → r ≡ x → EndedOver e old new x → Finished e old new (status_of r)
  some_refused e (Ok v) is h = refused_ended e v is h
  some_refused e (Err halt.InputFault) is h = absurd (false≢true (ap (λ (x : Result Verdict Halt). is_refused_status (status_of x)) (sym is) ∙ refused))
  some_refused e (Err halt.TooLong) is h = absurd (false≢true (ap (λ (x : Result Verdict Halt). is_refused_status (status_of x)) (sym is) ∙ refused))
  some_refused e (Err halt.DiskFault) is h = absurd (false≢true (ap (λ (x : Result Verdict Halt). is_refused_status (status_of x)) (sym is) ∙ refused))
  some_refused e (Err (halt.Stopped stop.ReadFault)) is h = absurd (false≢true (ap (λ (x : Result Verdict Halt). is_refused_status (status_of x)) (sym is) ∙ refused))
  some_refused e (Err (halt.Stopped stop.WriteFault)) is h = absurd (false≢true (ap (λ (x : Result Verdict Halt). is_refused_status (status_of x)) (sym is) ∙ refused))
  some_refused e (Err (halt.Stopped stop.NoMemory)) is h = absurd (false≢true (ap (λ (x : Result Verdict Halt). is_refused_status (status_of x)) (sym is) ∙ refused))
