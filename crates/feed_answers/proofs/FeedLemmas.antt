-- From the opening of a view and the answers behind it to a run of `feed`.
use Rattle.std.proofs.Common.{◌≡◌, ◌≢◌, ℕ, true, false, List, [], Option, Some, refl, sym, subst}
use Rattle.std.specs.Prelude.{Result, Ok, Err, IfOk, IfErr}
use Rattle.outside.specs.Effects.{Effect, World}
use Rattle.outside.specs.declared.stop.Stop.{Stop}
use Rattle.course.specs.declared.status.Verdict.{Verdict}
use Rattle.course.specs.declared.status.Halt.{Halt}
use Rattle.course.specs.declared.status.Halt.TheVariants as halt
use Rattle.course.specs.Answering.{Reply, Continues, Ran, AnsweredSome, IsReadOut, is_too_long}
use Rattle.course.specs.Answering as lines
use Rattle.course.specs.Statuses.{can_maintain}
use Rattle.course.specs.Course.{RanBy, RanSome, Took, TookEnough, by_lines, verdict_status, status_of}
use Rattle.view_stages.specs.Open.{OpenValue}
use Rattle.view_opening.specs.declared.opening.Opened.TheVariants as opened_as
use Rattle.opened_view.specs.Steps.{Begins, starting}
use Rattle.view_opening.specs.Opens.{Opens}
use Rattle.opened_view.specs.Limits.{IsWithin, StepsBy}
use Rattle.opened_view.proofs.LimitLemmas.{drove_steps}
use Rattle.opened_view.proofs.MaintainLemmas.{opening_ended, opening_stopped, opening_drove, ended_enough, enough_answering, open_reads, some_ended, some_stopped, some_drove, took_answering, drove_verdict, begins_with, ends_with, stops_with, stopped_can, done_can}
use Rattle.feed_answers.specs.declared.view.FeedView.{FeedView}
use Rattle.feed_answers.specs.Answers.{answer, fed, step, finish, at_first}
use Rattle.feed_answers.specs.Limits.{limit}

-- no line ends a run
pub goes : (f : FeedView) (line : List ℕ) → (es : List Effect) × (g : FeedView) × (step f line ≡ Continues es g)
goes f line = ((answer f line).effects, fed f line, refl)

-- an opened view answered the lines of its feeds
module _ (r : Reply OpenValue) (o : OpenValue) (f : FeedView) (old mid : World) (h : Opens r old mid (Ok (opened_as.Open o))) (is : f ≡ at_first o) where
  begins : Begins (starting at_first r) old mid f
  begins = subst (Begins (starting at_first r) old mid) (sym is) (begins_with at_first r old mid o h)

  pub fed_drove : (bytes : List ℕ) (rest : Option (List ℕ)) (new : World) (s : Result Verdict Halt) → Ran step finish f bytes rest mid new s → RanBy (by_lines step finish (starting at_first r)) bytes rest old new s
  fed_drove bytes rest new s ran = opening_drove step finish (starting at_first r) f bytes rest old mid new s begins ran

  pub fed_some : (new : World) (s : Result Verdict Halt) → AnsweredSome step finish f mid new s → RanSome (by_lines step finish (starting at_first r)) old new s
  fed_some new s ran = some_drove step finish (starting at_first r) f old mid new s begins ran

  pub fed_took : (bytes : List ℕ) (rest last : Option (List ℕ)) (new : World) (s : Result Verdict Halt)
      → IfErr s (λ h. lines.TookLittle step finish f bytes rest last mid new (is_too_long h)) → IfErr s (λ h. Took (by_lines step finish (starting at_first r)) bytes rest last old new (is_too_long h))
  fed_took bytes rest last new s took = took_answering step finish (starting at_first r) f bytes rest last old mid new s begins took

  pub fed_enough : (bytes : List ℕ) (before rest last : Option (List ℕ)) (s : Result Verdict Halt) → before ≡ Some bytes
      → IfOk s (λ _. (bs : List ℕ) → before ≡ Some bs → IsReadOut step f bs rest last) → IfOk s (λ _. TookEnough (by_lines step finish (starting at_first r)) bytes rest last)
  fed_enough bytes before rest last s told read = enough_answering step finish (starting at_first r) f bytes before rest last old mid s begins told read

  pub fed_reads : {B : Type 0} → (by_lines step finish (starting at_first r)).reads ≡ false → B
  fed_reads none = open_reads step finish (starting at_first r) old mid f begins none

  pub fed_within : (ls : List (List ℕ)) (i j k : ℕ) → j ≡ i → IsWithin (lines.limit_of step limit ls (Continues [] f)) j k → StepsBy step limit (starting at_first r) ls i k
  fed_within ls i j k same took = drove_steps step limit (starting at_first r) f ls old mid i j k begins same took

-- an opening that ended the run, and one that stopped
module _ (r : Reply OpenValue) (old new : World) where
  pub fed_ended : (bytes : List ℕ) (rest : Option (List ℕ)) (v : Verdict) → Opens r old new (Ok (opened_as.Ended v)) → RanBy (by_lines step finish (starting at_first r)) bytes rest old new (Ok v)
  fed_ended bytes rest v h = opening_ended step finish (starting at_first r) bytes rest old new v (ends_with at_first r old new v h)

  pub some_fed : (v : Verdict) → Opens r old new (Ok (opened_as.Ended v)) → RanSome (by_lines step finish (starting at_first r)) old new (Ok v)
  some_fed v h = some_ended step finish (starting at_first r) old new v (ends_with at_first r old new v h)

  pub enough_fed : (bytes : List ℕ) (rest last : Option (List ℕ)) (v : Verdict) → Opens r old new (Ok (opened_as.Ended v)) → TookEnough (by_lines step finish (starting at_first r)) bytes rest last
  enough_fed bytes rest last v h = ended_enough step finish (starting at_first r) bytes rest last old new v (ends_with at_first r old new v h)

  pub fed_stopped : (bytes : List ℕ) (rest : Option (List ℕ)) (e : Stop) → Opens r old new (Err e) → RanBy (by_lines step finish (starting at_first r)) bytes rest old new (Err (halt.Stopped e))
  fed_stopped bytes rest e h = opening_stopped step finish (starting at_first r) bytes rest old new e (stops_with at_first r old new h)

  pub some_fed_stopped : (e : Stop) → Opens r old new (Err e) → RanSome (by_lines step finish (starting at_first r)) old new (Err (halt.Stopped e))
  some_fed_stopped e h = some_stopped step finish (starting at_first r) old new e (stops_with at_first r old new h)

-- the statuses of `feed` are those of `maintain`
pub drove_can : (f : FeedView) (w v : World) (r : Result Verdict Halt) → AnsweredSome step finish f w v r → r ≢ Err halt.DiskFault → can_maintain (status_of r) ≡ true
drove_can f w v (Ok s) h never = drove_verdict step finish goes (λ (x : Verdict). can_maintain (verdict_status x) ≡ true) (λ g. done_can g.view.refused) f w v s h
drove_can f w v (Err halt.InputFault) h never = refl
drove_can f w v (Err halt.TooLong) h never = refl
drove_can f w v (Err halt.DiskFault) h never = absurd (never refl)
drove_can f w v (Err (halt.Stopped e)) h never = stopped_can e
