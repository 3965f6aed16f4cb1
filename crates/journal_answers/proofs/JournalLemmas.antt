-- From the opening of a view with a journal and the answers behind it to a run of `journal`.
use Rattle.std.proofs.Common.{◌≡◌, ◌≤◌, ◌⊎◌, inl, inr, ℕ, Bool, true, false, List, [], ◌∷◌, ◌++◌, length, Option, Some, refl, sym, ap, ◌∙◌, subst, append-nil, arith}
use Rattle.std.specs.Prelude.{Result, Ok, Err, IfOk, if◌then◌else◌}
use Rattle.disk.specs.Disk.{Content, DiskState, MayLeave}
use Rattle.disk.specs.Moments.{Elapses}
use Rattle.outside.specs.Effects.{Effect, World, contents, performed}
use Rattle.outside.specs.declared.stop.Stop.{Stop}
use Rattle.outside.specs.declared.stop.Stop.TheVariants as stop
use Rattle.outside.proofs.EffectLemmas.{performed_append, nothing_yet}
use Rattle.tab_lines.specs.Lines.{lines_of}
use Rattle.course.specs.declared.status.Verdict.{Verdict}
use Rattle.course.specs.declared.status.Verdict.TheVariants as verdict
use Rattle.course.specs.declared.status.Halt.{Halt}
use Rattle.course.specs.declared.status.Halt.TheVariants as halt
use Rattle.course.specs.Answering.{Reply, Continues, Finishes, Ending, prefixed, ending, follow, course, Ran, AnsweredSome, IsReadOut, IsReadWhole}
use Rattle.course.specs.Keeping.{Entry, Log, LeavesNow, LeavesFrontNow, LeavesFronts, KeptAtEnd, KeptOver, BlamesDisk, noted}
use Rattle.course.proofs.KeepingLemmas.{front_none, fronts_then}
use Rattle.journal_log.specs.Logs.{log_of}
use Rattle.course.specs.Course.{Course, RanBy, RanSome, Took, IsWholeInput, verdict_status, status_of, is_done, is_refused_status}
use Rattle.opened_view.specs.Steps.{Begins, EndsRun}
use Rattle.journal_answers.specs.declared.view.JournalView.{JournalView}
use Rattle.journal_answers.specs.Answers.{step, finish, made, answer, by_room}
use Rattle.journal_answers.specs.Kept.{RanOver, KeptBehind, KeptNothing, KeptOpened}
use Rattle.journal_answers.specs.Statuses.{can_journal}
use Rattle.opened_view.specs.Answers.{end_view}
use Rattle.journal_log.specs.Room.{lacks_room}

-- a run whose disk did not fail before its opening did anything
pub ran_over : (c : Course) (bytes : List ℕ) (rest : Option (List ℕ)) (old new : World) (r : Result Verdict Halt) → RanBy c bytes rest old new r → RanOver c bytes rest old new r
ran_over c bytes rest old new (Ok v) h = h
ran_over c bytes rest old new (Err halt.InputFault) h = h
ran_over c bytes rest old new (Err halt.TooLong) h = h
ran_over c bytes rest old new (Err halt.DiskFault) h = inr h
ran_over c bytes rest old new (Err (halt.Stopped e)) h = h

-- and one whose disk did
pub some_held_up : (c : Course) (old new : World) → contents new ≡ contents old → RanSome c old new (Err halt.DiskFault)
some_held_up c old new same = record { lines = []; ran = nothing_yet (c.whole []).effects (contents old) (contents new) same }

pub took_held_up : (c : Course) (bytes : List ℕ) (rest last : Option (List ℕ)) (old new : World) → rest ≡ Some bytes → Took c bytes rest last old new false
took_held_up c bytes rest last old new told = inl (told, refl)

-- a line ends a run with such a verdict alone
module _ {A : Type 0} (step_by : A → List ℕ → Reply A) (finish_by : A → Ending) where
  abbrev pub EndsBy : (Verdict → Type 0) → Type 0
  EndsBy P = (a : A) (line : List ℕ) (es : List Effect) (v : Verdict) → step_by a line ≡ Finishes es v → P v

  module _ (P : Verdict → Type 0) (ends : EndsBy P) where
    one_ended : (a : A) (line : List ℕ) (es : List Effect) (r : Reply A) → step_by a line ≡ r → (fs : List Effect) (v : Verdict) → prefixed es r ≡ Finishes fs v → P v
    one_ended a line es (Continues gs b) e fs v is = absurd (cc is)
    one_ended a line es (Finishes gs w) e fs v is = let same : w ≡ v = cc is in subst P same (ends a line gs w e)

    all_ended : (ls : List (List ℕ)) (r : Reply A) → ((fs : List Effect) (v : Verdict) → r ≡ Finishes fs v → P v) → (fs : List Effect) (v : Verdict) → follow step_by ls r ≡ Finishes fs v → P v
    all_ended [] r h fs v is = h fs v is
    all_ended (line ∷ ls) (Continues es a) h fs v is = all_ended ls (prefixed es (step_by a line)) (one_ended a line es (step_by a line) refl) fs v is
    all_ended (line ∷ ls) (Finishes es w) h fs v is = all_ended ls (Finishes es w) h fs v is

    -- so the lines of a run do, and else its end gives the verdict
    pub lines_ended : (a : A) (ls : List (List ℕ)) (fs : List Effect) (v : Verdict) → follow step_by ls (Continues [] a) ≡ Finishes fs v → P v
    lines_ended a ls fs v is = all_ended ls (Continues [] a) (λ gs w e. absurd (cc e)) fs v is

    pub course_verdict : ((a : A) → P (finish_by a).status) → (a : A) (ls : List (List ℕ)) → P (course step_by finish_by a ls).status
    course_verdict at_end a ls = by_reply (follow step_by ls (Continues [] a)) refl
      where
        by_reply : (r : Reply A) → follow step_by ls (Continues [] a) ≡ r → P (ending finish_by r).status
        by_reply (Continues es b) is = at_end b
        by_reply (Finishes es v) is = lines_ended a ls es v is

  -- where no line ends a run that is done, all of the input was read
  pub done_whole : EndsBy (λ v. is_done v ≡ false) → (a : A) (bytes : List ℕ) (before rest last : Option (List ℕ)) (old new : World) (r : Result Verdict Halt)
      → ((bs : List ℕ) → before ≡ Some bs → Ran step_by finish_by a bs rest old new r) → IfOk r (λ _. (bs : List ℕ) → before ≡ Some bs → IsReadOut step_by a bs rest last) → before ≡ Some bytes → IsWholeInput bytes rest r
  done_whole ends a bytes before rest last old new (Err h) ran read told = tt
  done_whole ends a bytes before rest last old new (Ok v) ran read told = λ done. by_reply done (follow step_by (lines_of bytes) (Continues [] a)) refl
    where
      by_reply : is_done v ≡ true → (r : Reply A) → follow step_by (lines_of bytes) (Continues [] a) ≡ r → IsReadWhole bytes rest
      by_reply done (Continues es b) is = (read bytes told).read es b is
      by_reply done (Finishes es w) is =
          let same : v ≡ w = (ran bytes told).1 ∙ ap (λ (r : Reply A). (ending finish_by r).status) is in
          let not_done : is_done w ≡ false = lines_ended (λ u. is_done u ≡ false) ends a (lines_of bytes) es w is in
          absurd (cc (sym done ∙ ap is_done same ∙ not_done))

-- only a full journal ends a run of `journal` at a line
full_by : (P : Verdict → Type 0) → P verdict.JournalFull → (f : JournalView) (line : List ℕ) (es : List Effect) (v : Verdict) (b : Bool) → by_room f (answer f.view line) (made f.view line) b ≡ Finishes es v → P v
full_by P h f line es v true is = let same : verdict.JournalFull ≡ v = cc is in subst P same h
full_by P h f line es v false is = absurd (cc is)

pub only_full : (P : Verdict → Type 0) → P verdict.JournalFull → EndsBy step finish P
only_full P h f line es v is = full_by P h f line es v (lacks_room f.journal.end (made f.view line)) is

-- the statuses of `journal`
done_can : (b : Bool) → can_journal (verdict_status (if b then verdict.SomeRefused else verdict.Done)) ≡ true
done_can true = refl
done_can false = refl

pub stopped_can : (e : Stop) → (let r : Result Verdict Halt = Err (halt.Stopped e) in can_journal (status_of r) ≡ true)
stopped_can stop.ReadFault = refl
stopped_can stop.WriteFault = refl
stopped_can stop.NoMemory = refl

pub refused_can : (v : Verdict) → is_refused_status (verdict_status v) ≡ true → can_journal (verdict_status v) ≡ true
refused_can verdict.Done h = refl
refused_can verdict.SomeRefused h = refl
refused_can verdict.Usage h = absurd (cc)
refused_can verdict.BadDefinition h = refl
refused_can verdict.BadCatalogue h = refl
refused_can verdict.NoView h = refl
refused_can verdict.JournalFull h = refl

pub drove_can : (f : JournalView) (w v : World) (r : Result Verdict Halt) → AnsweredSome step finish f w v r → can_journal (status_of r) ≡ true
drove_can f w v (Ok s) h =
    subst (λ (x : Verdict). can_journal (verdict_status x) ≡ true) (sym h.ran.1)
    (course_verdict step finish (λ x. can_journal (verdict_status x) ≡ true) (only_full (λ x. can_journal (verdict_status x) ≡ true) refl) (λ g. done_can (end_view g.view).refused) f h.lines)
drove_can f w v (Err halt.InputFault) h = refl
drove_can f w v (Err halt.TooLong) h = refl
drove_can f w v (Err halt.DiskFault) h = refl
drove_can f w v (Err (halt.Stopped e)) h = stopped_can e

-- the disk is blamed behind an opening
pub disk_later : {A : Type 0} (i j k : ℕ) (r : Result A Halt) → i ≤ j → BlamesDisk j k r → BlamesDisk i k r
disk_later i j k (Ok a) le h = record { later = omega (arith, le, h.later); because = tt }
disk_later i j k (Err halt.InputFault) le h = record { later = omega (arith, le, h.later); because = tt }
disk_later i j k (Err halt.TooLong) le h = record { later = omega (arith, le, h.later); because = tt }
disk_later i j k (Err halt.DiskFault) le h = record { later = omega (arith, le, h.later); because = omega (arith, le, h.because) }
disk_later i j k (Err (halt.Stopped e)) le h = record { later = omega (arith, le, h.later); because = tt }

-- an opening only reads the disk
module _ {D : Type 0} (state : D → DiskState) (left_since : D → ℕ → List ℕ → Type 0) (es : List Entry) (old mid : D)
    (counts : (t : ℕ) (image : List ℕ) → t ≤ (state old).moment → MayLeave (state old).content image → left_since old t image) (only : (image : List ℕ) → left_since mid (state mid).moment image → MayLeave (state mid).content image)
    (same : (state mid).content ≡ (state old).content) (time : Elapses (state old) (state mid) (left_since old) (left_since mid)) (first : LeavesNow (log_of state left_since) es old) where
  abbrev log : Log D
  log = log_of state left_since

  has_entries : (image : List ℕ) → MayLeave (state mid).content image → log.reads image ≡ Some es
  has_entries image may = first image (counts (state old).moment image (omega arith) (subst (λ (c : Option Content). MayLeave c image) same may))

  pub only_read : KeptNothing log es old mid
  only_read = record {
    fronts = record {
      later = time.later;
      each = λ t c le since. elim (time.nothing_else t c le since) [ inl was ↦ inl was | inr may ↦ inr (front_none log es [] c (has_entries c may)) ];
    };
    kept = λ c since. has_entries c (only c since);
  }

-- what a run kept behind an opening that kept nothing
module _ {A D : Type 0} (step_by : A → List ℕ → Reply A) (note_by : A → List ℕ → List Entry) (log : Log D) where
  -- a line under way is noted whatever was done before it
  noted_behind : (ls : List (List ℕ)) (es fs : List Effect) (a : A) → length ls ≤ 1 → noted step_by note_by ls (Continues es a) ≡ noted step_by note_by ls (Continues fs a)
  noted_behind [] es fs a few = refl
  noted_behind (l ∷ []) es fs a few = refl
  noted_behind (l ∷ m ∷ ls) es fs a few = absurd (omega (arith, few))

  module _ (first : List Effect) (start : A) (es : List Entry) (input rest : Option (List ℕ)) (answered under_way : List (List ℕ)) (few : length under_way ≤ 1) (effects : List Effect) (state : A) (new : D) (old_world mid_world new_world : World) (opened : contents mid_world ≡ performed first (contents old_world)) where
    abbrev All : List Entry
    All = es ++ noted step_by note_by (answered ++ under_way) (Continues [] start)

    abbrev Some_ : List Entry
    Some_ = es ++ noted step_by note_by answered (Continues [] start)

    abbrev Or : World → List Effect → Type 0
    Or before fx = LeavesNow log All new ⊎ ((contents new_world ≡ performed fx (contents before)) × LeavesFrontNow log Some_ (noted step_by note_by under_way (Continues fx state)) new)

    stopped_behind : Or mid_world effects → Or old_world (first ++ effects)
    stopped_behind h = elim h [
      | inl all ↦ inl all
      | inr some ↦ inr (
        some.0 ∙ ap (performed effects) opened ∙ sym (performed_append first effects (contents old_world)),
        subst (λ (ns : List Entry). LeavesFrontNow log Some_ ns new) (noted_behind under_way effects (first ++ effects) state few) some.1,
      )
    ]

    pub end_behind : (r : Result Verdict Halt) → KeptAtEnd step_by note_by log start es input rest answered under_way effects state new mid_world new_world r
        → KeptAtEnd step_by note_by log start es input rest answered under_way (first ++ effects) state new old_world new_world r
    end_behind (Ok v) h = h
    end_behind (Err halt.InputFault) h = h
    end_behind (Err halt.TooLong) h = h
    end_behind (Err halt.DiskFault) h = stopped_behind h
    end_behind (Err (halt.Stopped e)) h = stopped_behind h

  module _ (es : List Entry) (input rest : Option (List ℕ)) (old mid new : D) (old_world mid_world new_world : World) (r : Result Verdict Halt) where
    kept_behind : (first : List Effect) (start : A) → contents mid_world ≡ performed first (contents old_world) → KeptNothing log es old mid
        → KeptOver step_by note_by log start es input rest mid new mid_world new_world r → KeptBehind step_by note_by log first start es input rest old new old_world new_world r
    kept_behind first start opened none k = record {
      answered = k.answered;
      under_way = k.under_way;
      few = k.few;
      effects = k.effects;
      state = k.state;
      first = k.first;
      goes = k.goes;
      fronts = fronts_then log es [] (noted step_by note_by (k.answered ++ k.under_way) (Continues [] start)) old mid new none.fronts
          (subst (λ (xs : List Entry). LeavesFronts log xs (noted step_by note_by (k.answered ++ k.under_way) (Continues [] start)) mid new) (sym (append-nil es)) k.fronts);
      kept = end_behind first start es input rest k.answered k.under_way k.few k.effects k.state new old_world mid_world new_world opened r k.kept;
    }

    -- what was opened answered the lines
    pub opened_kept : (x : Reply A) (a : A) → Begins x old_world mid_world a → KeptNothing log es old mid → KeptOver step_by note_by log a es input rest mid new mid_world new_world r → KeptOpened step_by note_by log x es input rest old new old_world new_world r
    opened_kept (Continues first start) a h none k = kept_behind first start h.0 none (subst (λ (b : A). KeptOver step_by note_by log b es input rest mid new mid_world new_world r) h.1 k)
    opened_kept (Finishes first v) a h none k = absurd h

  -- an opening that ended the run, and one that stopped
  pub ended_kept : (x : Reply A) (es : List Entry) (input rest : Option (List ℕ)) (old new : D) (w v : World) (s : Verdict) (r : Result Verdict Halt) → EndsRun x w v s → KeptNothing log es old new → KeptOpened step_by note_by log x es input rest old new w v r
  ended_kept (Continues first start) es input rest old new w v s r h none = absurd h
  ended_kept (Finishes first u) es input rest old new w v s r h none = none

  none_kept : (first : List Effect) (start : A) (es : List Entry) (input rest : Option (List ℕ)) (old new : D) (w v : World) (r : Result Verdict Halt) → KeptNothing log es old new
      → KeptAtEnd step_by note_by log start es input rest [] [] (first ++ []) start new w v r → KeptBehind step_by note_by log first start es input rest old new w v r
  none_kept first start es input rest old new w v r none kept = record {
    answered = [];
    under_way = [];
    few = omega arith;
    effects = [];
    state = start;
    first = record { told = λ bytes told. (lines_of bytes, refl) };
    goes = refl;
    fronts = none.fronts;
    kept = kept;
  }

  pub stopped_kept : (x : Reply A) (es : List Entry) (input rest : Option (List ℕ)) (old new : D) (w v : World) (e : Stop) → KeptNothing log es old new → KeptOpened step_by note_by log x es input rest old new w v (Err (halt.Stopped e))
  stopped_kept (Continues first start) es input rest old new w v e none = none_kept first start es input rest old new w v (Err (halt.Stopped e)) none (inl (subst (λ (xs : List Entry). LeavesNow log xs new) (sym (append-nil es)) none.kept))
  stopped_kept (Finishes first u) es input rest old new w v e none = none

  pub held_up_kept : (x : Reply A) (es : List Entry) (input rest : Option (List ℕ)) (old new : D) (w v : World) → KeptNothing log es old new → KeptOpened step_by note_by log x es input rest old new w v (Err halt.DiskFault)
  held_up_kept (Continues first start) es input rest old new w v none = none_kept first start es input rest old new w v (Err halt.DiskFault) none (inl (subst (λ (xs : List Entry). LeavesNow log xs new) (sym (append-nil es)) none.kept))
  held_up_kept (Finishes first u) es input rest old new w v none = none
