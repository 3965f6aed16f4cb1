-- From an opening and the answers behind it to a run, whatever the machine; and to a run of `maintain`.
use Rattle.std.proofs.Common.{◌≡◌, ◌≢◌, ℕ, Bool, true, false, List, [], ◌∷◌, ◌++◌, Option, Some, refl, sym, ap, ◌∙◌, subst}
use Rattle.std.specs.Prelude.{Result, Ok, Err, IfOk, IfErr, if◌then◌else◌}
use Rattle.outside.specs.Effects.{Effect, World, contents, Partly}
use Rattle.outside.specs.declared.stop.Stop.{Stop}
use Rattle.outside.specs.declared.stop.Stop.TheVariants as stop
use Rattle.outside.proofs.EffectLemmas.{partly_more}
use Rattle.tab_lines.specs.Lines.{lines_of}
use Rattle.course.specs.declared.status.Verdict.{Verdict}
use Rattle.course.specs.declared.status.Verdict.TheVariants as verdict
use Rattle.course.specs.declared.status.Halt.{Halt}
use Rattle.course.specs.declared.status.Halt.TheVariants as halt
use Rattle.course.specs.Answering.{Reply, Continues, Finishes, Ending, effects_of, prefixed, ending, follow, course, Ran, AnsweredSome, EndedOver, IsReadOut, is_too_long}
use Rattle.course.specs.Answering as lines
use Rattle.course.specs.Statuses.{can_maintain}
use Rattle.course.specs.Course.{RanBy, RanSome, Took, TookEnough, by_lines, verdict_status, status_of, is_refused_status, IsWholeInput}
use Rattle.course.proofs.DriveLemmas.{went_on, ended_later, took_behind, enough_behind}
use Rattle.view_stages.specs.Open.{OpenValue}
use Rattle.opened_view.specs.Steps.{Begins, EndsRun, starting}
use Rattle.opened_view.specs.Answers.{step, finish, answer, end_view}

module _ {A : Type 0} (step_by : A → List ℕ → Reply A) (finish_by : A → Ending) where
  -- an opening that ended the run, and one that stopped
  pub opening_ended : (r : Reply A) (bytes : List ℕ) (rest : Option (List ℕ)) (old new : World) (v : Verdict) → EndsRun r old new v → RanBy (by_lines step_by finish_by r) bytes rest old new (Ok v)
  opening_ended (Finishes es w) bytes rest old new v h = h
  opening_ended (Continues es a) bytes rest old new v h = absurd h

  pub opening_stopped : (r : Reply A) (bytes : List ℕ) (rest : Option (List ℕ)) (old new : World) (e : Stop) → Partly (effects_of r) (contents old) (contents new) → RanBy (by_lines step_by finish_by r) bytes rest old new (Err (halt.Stopped e))
  opening_stopped (Finishes es w) bytes rest old new e h = h
  opening_stopped (Continues es a) bytes rest old new e h = partly_more es (course step_by finish_by a (lines_of bytes)).effects (contents old) (contents new) h

  -- what was opened answered the lines
  pub opening_drove : (r : Reply A) (a : A) (bytes : List ℕ) (rest : Option (List ℕ)) (old mid new : World) (s : Result Verdict Halt) → Begins r old mid a → Ran step_by finish_by a bytes rest mid new s → RanBy (by_lines step_by finish_by r) bytes rest old new s
  opening_drove (Finishes es w) a bytes rest old mid new s h ran = absurd h
  opening_drove (Continues es b) a bytes rest old mid new s h ran = went_on step_by finish_by es b bytes rest old mid new s h.0 (subst (λ (x : A). Ran step_by finish_by x bytes rest mid new s) h.1 ran)

  -- no line ends the run, so that the whole input was read where all was done
  abbrev pub Goes : Type 0
  Goes = (a : A) (line : List ℕ) → (es : List Effect) × (b : A) × (step_by a line ≡ Continues es b)

  pub goes_always : Goes → (ls : List (List ℕ)) (es : List Effect) (a : A) → (fs : List Effect) × (b : A) × (follow step_by ls (Continues es a) ≡ Continues fs b)
  goes_always goes [] es a = (es, a, refl)
  goes_always goes (line ∷ ls) es a =
      let next = goes a line in
      let rest = goes_always goes ls (es ++ next.0) next.1 in
      (rest.0, rest.1, ap (λ (r : Reply A). follow step_by ls (prefixed es r)) next.2 ∙ rest.2)

  pub drove_whole : Goes → (a : A) (bytes : List ℕ) (before rest last : Option (List ℕ)) (r : Result Verdict Halt) → IfOk r (λ _. (bs : List ℕ) → before ≡ Some bs → IsReadOut step_by a bs rest last) → before ≡ Some bytes → IsWholeInput bytes rest r
  drove_whole goes a bytes before rest last (Ok v) h e = λ done. let all = goes_always goes (lines_of bytes) [] a in (h bytes e).read all.0 all.1 all.2
  drove_whole goes a bytes before rest last (Err x) h e = tt

  -- what was taken of the input where the run ended
  pub ended_enough : (r : Reply A) (bytes : List ℕ) (rest last : Option (List ℕ)) (old new : World) (v : Verdict) → EndsRun r old new v → TookEnough (by_lines step_by finish_by r) bytes rest last
  ended_enough (Finishes es w) bytes rest last old new v h reads = absurd (cc)
  ended_enough (Continues es a) bytes rest last old new v h reads = absurd h

  drove_enough : (r : Reply A) (a : A) (bytes : List ℕ) (rest last : Option (List ℕ)) (old mid : World) → Begins r old mid a → IsReadOut step_by a bytes rest last → TookEnough (by_lines step_by finish_by r) bytes rest last
  drove_enough (Finishes es w) a bytes rest last old mid h read = absurd h
  drove_enough (Continues es b) a bytes rest last old mid h read = enough_behind step_by finish_by es b bytes rest last (subst (λ (x : A). IsReadOut step_by x bytes rest last) h.1 read)

  pub enough_answering : (r : Reply A) (a : A) (bytes : List ℕ) (before rest last : Option (List ℕ)) (old mid : World) (s : Result Verdict Halt) → Begins r old mid a → before ≡ Some bytes
      → IfOk s (λ _. (bs : List ℕ) → before ≡ Some bs → IsReadOut step_by a bs rest last) → IfOk s (λ _. TookEnough (by_lines step_by finish_by r) bytes rest last)
  enough_answering r a bytes before rest last old mid (Ok v) h e read = drove_enough r a bytes rest last old mid h (read bytes e)
  enough_answering r a bytes before rest last old mid (Err x) h e read = tt

  -- what was opened reads the input
  pub open_reads : {B : Type 0} (r : Reply A) (old mid : World) (a : A) → Begins r old mid a → (by_lines step_by finish_by r).reads ≡ false → B
  open_reads (Finishes es w) old mid a h none = absurd h
  open_reads (Continues es b) old mid a h none = absurd (cc none)

  -- what was done, whatever the input tells
  pub some_ended : (r : Reply A) (old new : World) (v : Verdict) → EndsRun r old new v → RanSome (by_lines step_by finish_by r) old new (Ok v)
  some_ended (Finishes es w) old new v h = record { lines = []; ran = h }
  some_ended (Continues es a) old new v h = absurd h

  pub some_stopped : (r : Reply A) (old new : World) (e : Stop) → Partly (effects_of r) (contents old) (contents new) → RanSome (by_lines step_by finish_by r) old new (Err (halt.Stopped e))
  some_stopped (Finishes es w) old new e h = record { lines = []; ran = h }
  some_stopped (Continues es a) old new e h = record { lines = []; ran = partly_more es (course step_by finish_by a []).effects (contents old) (contents new) h }

  pub some_drove : (r : Reply A) (a : A) (old mid new : World) (s : Result Verdict Halt) → Begins r old mid a → AnsweredSome step_by finish_by a mid new s → RanSome (by_lines step_by finish_by r) old new s
  some_drove (Finishes es w) a old mid new s h ran = absurd h
  some_drove (Continues es b) a old mid new s h ran = record { lines = ran.lines; ran = ended_later es (course step_by finish_by b ran.lines) old mid new s h.0 (subst (λ (x : A). EndedOver (course step_by finish_by x ran.lines) mid new s) h.1 ran.ran) }

  -- what was taken of the input where the run gave up
  took_drove : (r : Reply A) (a : A) (bytes : List ℕ) (rest last : Option (List ℕ)) (old mid new : World) (long : Bool) → Begins r old mid a → lines.TookLittle step_by finish_by a bytes rest last mid new long → Took (by_lines step_by finish_by r) bytes rest last old new long
  took_drove (Finishes es w) a bytes rest last old mid new long h took = absurd h
  took_drove (Continues es b) a bytes rest last old mid new long h took = took_behind step_by finish_by es b bytes rest last old mid new long h.0 (subst (λ (x : A). lines.TookLittle step_by finish_by x bytes rest last mid new long) h.1 took)

  pub took_answering : (r : Reply A) (a : A) (bytes : List ℕ) (rest last : Option (List ℕ)) (old mid new : World) (s : Result Verdict Halt) → Begins r old mid a
      → IfErr s (λ h. lines.TookLittle step_by finish_by a bytes rest last mid new (is_too_long h)) → IfErr s (λ h. Took (by_lines step_by finish_by r) bytes rest last old new (is_too_long h))
  took_answering r a bytes rest last old mid new (Ok v) h took = took
  took_answering r a bytes rest last old mid new (Err x) h took = took_drove r a bytes rest last old mid new (is_too_long x) h took

  -- the verdict of a run over some lines
  pub drove_verdict : Goes → (P : Verdict → Type 0) → ((a : A) → P (finish_by a).status) → (a : A) (w v : World) (s : Verdict) → AnsweredSome step_by finish_by a w v (Ok s) → P s
  drove_verdict goes P ends a w v s h =
      let all = goes_always goes h.lines [] a in
      subst P (sym (h.ran.1 ∙ ap (λ (r : Reply A). (ending finish_by r).status) all.2)) (ends all.1)

-- an opening that a machine goes on from
module _ {A B : Type 0} (f : A → B) where
  pub begins_with : (r : Reply A) (old new : World) (a : A) → Begins r old new a → Begins (starting f r) old new (f a)
  begins_with (Continues es b) old new a h = (h.0, ap f h.1)
  begins_with (Finishes es v) old new a h = absurd h

  pub ends_with : (r : Reply A) (old new : World) (v : Verdict) → EndsRun r old new v → EndsRun (starting f r) old new v
  ends_with (Continues es b) old new v h = absurd h
  ends_with (Finishes es w) old new v h = h

  pub stops_with : (r : Reply A) (old new : World) → Partly (effects_of r) (contents old) (contents new) → Partly (effects_of (starting f r)) (contents old) (contents new)
  stops_with (Continues es b) old new h = h
  stops_with (Finishes es w) old new h = h

-- an opening that was refused is not done
pub ended_whole : (bytes : List ℕ) (rest : Option (List ℕ)) (v : Verdict) → is_refused_status (verdict_status v) ≡ true → IsWholeInput bytes rest (Ok v)
ended_whole bytes rest verdict.Done h done = absurd (cc)
ended_whole bytes rest verdict.SomeRefused h done = absurd (cc)
ended_whole bytes rest verdict.Usage h done = absurd (cc)
ended_whole bytes rest verdict.BadDefinition h done = absurd (cc)
ended_whole bytes rest verdict.BadCatalogue h done = absurd (cc)
ended_whole bytes rest verdict.NoView h done = absurd (cc)
ended_whole bytes rest verdict.JournalFull h done = absurd (cc)

-- the statuses of `maintain`
pub refused_can : (v : Verdict) → is_refused_status (verdict_status v) ≡ true → can_maintain (verdict_status v) ≡ true
refused_can verdict.Done h = refl
refused_can verdict.SomeRefused h = refl
refused_can verdict.Usage h = absurd (cc)
refused_can verdict.BadDefinition h = refl
refused_can verdict.BadCatalogue h = refl
refused_can verdict.NoView h = refl
refused_can verdict.JournalFull h = absurd (cc)

pub stopped_can : (e : Stop) → (let r : Result Verdict Halt = Err (halt.Stopped e) in can_maintain (status_of r) ≡ true)
stopped_can stop.ReadFault = refl
stopped_can stop.WriteFault = refl
stopped_can stop.NoMemory = refl

-- no line ends a run of `maintain`
pub goes : (o : OpenValue) (line : List ℕ) → (es : List Effect) × (p : OpenValue) × (step o line ≡ Continues es p)
goes o line = ((answer o line).effects, (answer o line).view, refl)

pub done_can : (b : Bool) → can_maintain (verdict_status (if b then verdict.SomeRefused else verdict.Done)) ≡ true
done_can true = refl
done_can false = refl

pub drove_can : (o : OpenValue) (w v : World) (r : Result Verdict Halt) → AnsweredSome step finish o w v r → r ≢ Err halt.DiskFault → can_maintain (status_of r) ≡ true
drove_can o w v (Ok s) h never = drove_verdict step finish goes (λ (x : Verdict). can_maintain (verdict_status x) ≡ true) (λ p. done_can (end_view p).refused) o w v s h
drove_can o w v (Err halt.InputFault) h never = refl
drove_can o w v (Err halt.TooLong) h never = refl
drove_can o w v (Err halt.DiskFault) h never = absurd (never refl)
drove_can o w v (Err (halt.Stopped e)) h never = stopped_can e
