-- From what an opening did to what a run did.
use Rattle.std.proofs.Common.{◌≡◌, ◌≢◌, ℕ, ◌+◌, ◌<◌, length-append, true, false, length, List, [], Option, refl, sym, ap, ◌∙◌, subst, arith, inl, inr}
use Rattle.std.specs.Prelude.{Bool, Result, Ok, Err, IfOk, IfErr}
use Rattle.course.specs.Answering.{Ending, Ended, EndedOver, BlamesRun, is_too_long}
use Rattle.outside.specs.Effects.{World}
use Rattle.outside.specs.declared.stop.Stop.{Stop}
use Rattle.outside.specs.declared.stop.Stop.TheVariants as stop
use Rattle.course.specs.declared.status.Halt.{Halt}
use Rattle.course.specs.declared.status.Halt.TheVariants as halt
use Rattle.course.specs.declared.status.Verdict.{Verdict}
use Rattle.course.specs.declared.status.Verdict.TheVariants as verdict
use Rattle.tab_lines.specs.Lines.{lines_of}
use Rattle.tab_lines.specs.Taking.{most_taken}
use Rattle.std.proofs.lemmas.Bool.{false≢true}
use Rattle.course.specs.Statuses.{can_check, can_show, can_load, can_refuse}
use Rattle.course.specs.Idle.{IdleRun, IdleStop}
use Rattle.course.specs.declared.exit.Status.{Status}
use Rattle.course.specs.declared.exit.Status.TheVariants as status
use Rattle.course.specs.Course.{Course, unread, verdict_status, status_of, Did, DidOver, DidSome, Cause, RanBy, RanSome, NoFault, Finished, is_fault_status, is_long_status, is_refused_status, is_done_status}
use Rattle.course.proofs.IdleLemmas.{idle_contents}

-- a command without an input that ended, and one that stopped

pub ran_some : (e : Ending) (old new : World) (v : Verdict) → Ended e old new (Ok v) → RanSome (unread e) old new (Ok v)
ran_some e old new v h = record { lines = []; ran = h }

pub stopped_some : (e : Ending) (old new : World) (s : Stop) → Ended e old new (Err s) → RanSome (unread e) old new (Err (halt.Stopped s))
stopped_some e old new s h = record { lines = []; ran = h }

-- a command can stop by each object that it uses
pub stop_can_check : (s : Stop) → (let r : Result Verdict Halt = Err (halt.Stopped s) in can_check (status_of r) ≡ true)
stop_can_check stop.ReadFault = refl
stop_can_check stop.WriteFault = refl
stop_can_check stop.NoMemory = refl

pub stop_can_show : (s : Stop) → (let r : Result Verdict Halt = Err (halt.Stopped s) in can_show (status_of r) ≡ true)
stop_can_show stop.ReadFault = refl
stop_can_show stop.WriteFault = refl
stop_can_show stop.NoMemory = refl

pub stop_can_load : (s : Stop) → s ≢ stop.ReadFault → (let r : Result Verdict Halt = Err (halt.Stopped s) in can_load (status_of r) ≡ true)
stop_can_load stop.ReadFault none = absurd (none refl)
stop_can_load stop.WriteFault none = refl
stop_can_load stop.NoMemory none = refl

pub stop_can_refuse : (s : Stop) → s ≢ stop.ReadFault → (let r : Result Verdict Halt = Err (halt.Stopped s) in can_refuse (status_of r) ≡ true)
stop_can_refuse stop.ReadFault none = absurd (none refl)
stop_can_refuse stop.WriteFault none = refl
stop_can_refuse stop.NoMemory none = refl

pub idle_other : (s : Stop) (w v : World) → s ≢ stop.ReadFault → IdleStop s w v
idle_other stop.ReadFault w v none = absurd (none refl)
idle_other stop.WriteFault w v none = tt
idle_other stop.NoMemory w v none = tt

-- the table of statuses
pub by_status : (c : Course) (bytes : List ℕ) (rest : Option (List ℕ)) (old new : World) (i j : ℕ) (r : Result Verdict Halt) → RanBy c bytes rest old new r → BlamesRun i j old new r → IdleRun r old new → Did c bytes rest old new (status_of r)
by_status c bytes rest old new i j (Ok verdict.Done) h b idle = record { status = ap verdict_status h.1; done = h.0 }
by_status c bytes rest old new i j (Ok verdict.SomeRefused) h b idle = record { status = ap verdict_status h.1; done = h.0 }
by_status c bytes rest old new i j (Ok verdict.Usage) h b idle = record { status = ap verdict_status h.1; done = h.0 }
by_status c bytes rest old new i j (Ok verdict.BadDefinition) h b idle = record { status = ap verdict_status h.1; done = h.0 }
by_status c bytes rest old new i j (Ok verdict.BadCatalogue) h b idle = record { status = ap verdict_status h.1; done = h.0 }
by_status c bytes rest old new i j (Ok verdict.NoView) h b idle = record { status = ap verdict_status h.1; done = h.0 }
by_status c bytes rest old new i j (Ok verdict.JournalFull) h b idle = record { status = ap verdict_status h.1; done = h.0 }
by_status c bytes rest old new i j (Err halt.InputFault) h b idle = inr h
by_status c bytes rest old new i j (Err halt.TooLong) h b idle = h
by_status c bytes rest old new i j (Err halt.DiskFault) h b idle = h
by_status c bytes rest old new i j (Err (halt.Stopped stop.ReadFault)) h b idle = inl (b.because, idle_contents old new idle)
by_status c bytes rest old new i j (Err (halt.Stopped stop.WriteFault)) h b idle = h
by_status c bytes rest old new i j (Err (halt.Stopped stop.NoMemory)) h b idle = h

-- what was done, whatever the input tells
pub some_by_status : (c : Course) (old new : World) (r : Result Verdict Halt) → RanSome c old new r → DidSome c old new (status_of r)
some_by_status c old new r h = record { lines = h.lines; did = over (c.whole h.lines) r h.ran }
  where
    over : (e : Ending) (r : Result Verdict Halt) → EndedOver e old new r → DidOver e old new (status_of r)
    over e (Ok verdict.Done) h = record { status = ap verdict_status h.1; done = h.0 }
    over e (Ok verdict.SomeRefused) h = record { status = ap verdict_status h.1; done = h.0 }
    over e (Ok verdict.Usage) h = record { status = ap verdict_status h.1; done = h.0 }
    over e (Ok verdict.BadDefinition) h = record { status = ap verdict_status h.1; done = h.0 }
    over e (Ok verdict.BadCatalogue) h = record { status = ap verdict_status h.1; done = h.0 }
    over e (Ok verdict.NoView) h = record { status = ap verdict_status h.1; done = h.0 }
    over e (Ok verdict.JournalFull) h = record { status = ap verdict_status h.1; done = h.0 }
    over e (Err halt.InputFault) h = h
    over e (Err halt.TooLong) h = h
    over e (Err halt.DiskFault) h = h
    over e (Err (halt.Stopped stop.ReadFault)) h = h
    over e (Err (halt.Stopped stop.WriteFault)) h = h
    over e (Err (halt.Stopped stop.NoMemory)) h = h

pub by_cause : (i j : ℕ) (old new : World) (r : Result Verdict Halt) → BlamesRun i j old new r → r ≢ Err halt.DiskFault → Cause (status_of r) i j old new
by_cause i j old new (Ok verdict.Done) b never = tt
by_cause i j old new (Ok verdict.SomeRefused) b never = tt
by_cause i j old new (Ok verdict.Usage) b never = tt
by_cause i j old new (Ok verdict.BadDefinition) b never = tt
by_cause i j old new (Ok verdict.BadCatalogue) b never = tt
by_cause i j old new (Ok verdict.NoView) b never = tt
by_cause i j old new (Ok verdict.JournalFull) b never = tt
by_cause i j old new (Err halt.InputFault) b never = inl b.because
by_cause i j old new (Err halt.TooLong) b never = tt
by_cause i j old new (Err halt.DiskFault) b never = absurd (never refl)
by_cause i j old new (Err (halt.Stopped stop.ReadFault)) b never = inr b.because
by_cause i j old new (Err (halt.Stopped stop.WriteFault)) b never = b.because
by_cause i j old new (Err (halt.Stopped stop.NoMemory)) b never = tt

-- a run without a fault, over an input that is not too long, finished, or there was no memory
by_no_fault : (c : Course) (bytes : List ℕ) (rest : Option (List ℕ)) (old new : World) (i j : ℕ) (s : Status) → Did c bytes rest old new s → Cause s i j old new → NoFault i j old new → length bytes < most_taken → s ≢ status.NoMemory → Finished (c.whole (lines_of bytes)) old new s
by_no_fault c bytes rest old new i j status.Done h cause none few some = h
by_no_fault c bytes rest old new i j status.SomeRefused h cause none few some = h
by_no_fault c bytes rest old new i j status.Usage h cause none few some = h
by_no_fault c bytes rest old new i j status.BadDefinition h cause none few some = h
by_no_fault c bytes rest old new i j status.BadCatalogue h cause none few some = h
by_no_fault c bytes rest old new i j status.NoView h cause none few some = h
by_no_fault c bytes rest old new i j status.ReadFault h cause none few some = elim cause [ inl r ↦ absurd (none.input r) | inr r ↦ absurd (none.reads r) ]
by_no_fault c bytes rest old new i j status.WriteFault h cause none few some = elim cause [ inl r ↦ absurd (none.writes r) | inr r ↦ absurd (none.prints r) ]
by_no_fault c bytes rest old new i j status.NoMemory h cause none few some = absurd (some refl)
by_no_fault c bytes rest old new i j status.JournalFull h cause none few some = h
by_no_fault c bytes rest old new i j status.DiskFault h cause none few some = absurd cause
by_no_fault c bytes rest old new i j status.TooLong h cause none few some =
    let long : length bytes ≡ length h.0.taken + length h.0.left = ap length h.0.split ∙ length-append h.0.taken h.0.left in
    let most : length h.0.taken ≡ most_taken = h.1 in
    absurd (omega (arith, long, most, few))

pub finishes : (c : Course) (bytes : List ℕ) (rest : Option (List ℕ)) (old new : World) (i j : ℕ) (r : Result Verdict Halt) → RanBy c bytes rest old new r → BlamesRun i j old new r → IdleRun r old new → r ≢ Err halt.DiskFault → NoFault i j old new → length bytes < most_taken → status_of r ≢ status.NoMemory → Finished (c.whole (lines_of bytes)) old new (status_of r)
finishes c bytes rest old new i j r h b idle never none few some = by_no_fault c bytes rest old new i j (status_of r) (by_status c bytes rest old new i j r h b idle) (by_cause i j old new r b never) none few some

-- a run that came to its end
no_fault_number : (v : Verdict) → is_fault_status (verdict_status v) ≡ false
no_fault_number verdict.Done = refl
no_fault_number verdict.SomeRefused = refl
no_fault_number verdict.Usage = refl
no_fault_number verdict.BadDefinition = refl
no_fault_number verdict.BadCatalogue = refl
no_fault_number verdict.NoView = refl
no_fault_number verdict.JournalFull = refl

fault_number : (h : Halt) → (let r : Result Verdict Halt = Err h in (is_fault_status (status_of r) ≡ true) × (is_long_status (status_of r) ≡ is_too_long h))
fault_number halt.InputFault = (refl, refl)
fault_number halt.TooLong = (refl, refl)
fault_number halt.DiskFault = (refl, refl)
fault_number (halt.Stopped stop.ReadFault) = (refl, refl)
fault_number (halt.Stopped stop.WriteFault) = (refl, refl)
fault_number (halt.Stopped stop.NoMemory) = (refl, refl)

pub by_end : (r : Result Verdict Halt) (P : Type 0) → IfOk r (λ v. P) → is_fault_status (status_of r) ≡ false → P
by_end (Ok v) P given e = given
by_end (Err h) P given e = absurd (false≢true (sym e ∙ (fault_number h).0))

-- a run that gave up
pub by_fault : (r : Result Verdict Halt) (P : Bool → Type 0) → IfErr r (λ h. P (is_too_long h)) → is_fault_status (status_of r) ≡ true → P (is_long_status (status_of r))
by_fault (Err h) P given e = subst P (sym (fault_number h).1) given
by_fault (Ok v) P given e = absurd (false≢true (sym (no_fault_number v) ∙ e))

-- a run that was refused came to its end
pub refused_finished : (c : Course) (bytes : List ℕ) (rest : Option (List ℕ)) (old new : World) (s : Status) → is_refused_status s ≡ true → Did c bytes rest old new s → Finished (c.whole (lines_of bytes)) old new s
refused_finished c bytes rest old new status.Done r h = h
refused_finished c bytes rest old new status.SomeRefused r h = h
refused_finished c bytes rest old new status.Usage r h = h
refused_finished c bytes rest old new status.BadDefinition r h = h
refused_finished c bytes rest old new status.BadCatalogue r h = h
refused_finished c bytes rest old new status.NoView r h = h
refused_finished c bytes rest old new status.ReadFault r h = absurd (cc)
refused_finished c bytes rest old new status.WriteFault r h = absurd (cc)
refused_finished c bytes rest old new status.NoMemory r h = absurd (cc)
refused_finished c bytes rest old new status.TooLong r h = absurd (cc)
refused_finished c bytes rest old new status.DiskFault r h = absurd (cc)
refused_finished c bytes rest old new status.JournalFull r h = h

-- a run that was done finished
pub done_finished : (c : Course) (bytes : List ℕ) (rest : Option (List ℕ)) (old new : World) (s : Status) → is_done_status s ≡ true → Did c bytes rest old new s → Finished (c.whole (lines_of bytes)) old new s
done_finished c bytes rest old new status.Done e h = h
done_finished c bytes rest old new status.SomeRefused e h = h
done_finished c bytes rest old new status.Usage e h = h
done_finished c bytes rest old new status.BadDefinition e h = h
done_finished c bytes rest old new status.BadCatalogue e h = h
done_finished c bytes rest old new status.NoView e h = h
done_finished c bytes rest old new status.ReadFault e h = absurd (cc)
done_finished c bytes rest old new status.WriteFault e h = absurd (cc)
done_finished c bytes rest old new status.NoMemory e h = absurd (cc)
done_finished c bytes rest old new status.TooLong e h = absurd (cc)
done_finished c bytes rest old new status.DiskFault e h = absurd (cc)
done_finished c bytes rest old new status.JournalFull e h = h
