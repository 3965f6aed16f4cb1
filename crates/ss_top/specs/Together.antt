-- The promises of `run` together, each under the name of its clause.
use Rattle.std.specs.Prelude.{◌≡◌, ◌≤◌, ℕ, true, false, List, Option}
use Rattle.ss_text.specs.Texts.{Text}
use Rattle.outside.specs.Reading.{OnlyRead}
use Rattle.outside.specs.Tree.{Tree}
use Rattle.outside.specs.Effects.{World}
use Rattle.course.specs.declared.exit.Status.{Status}
use Rattle.course.specs.Course.{Cause}
use Rattle.ss_top.specs.Commands.{asked_of, names_of, uses_store, only_reads, reads_input, counts, can_end}
use Rattle.ss_top.specs.Runs.{Definitions, AreDefined, Request, Asks, course_of}
use Rattle.ss_top.specs.Clauses.{DoesCourse, IsComplete, AnswersSome, Checks, Shows, Maintains, StopsAtSync, Stacks, StackStopsAtSync, Feeds, FeedStopsAtSync, Verifies, TellsDifference, Applies, AppliesNothing, Loads, ReadsWhole, KeepsAll, KeepsOthers, LeavesBetween, TakesLittle, TakesEnough, TakesSteps}

-- a run of words did all that `run` promises. left, came, failed: what a source has left, what its last read gave, and how many of its reads failed; before, after: the source; i, j: the steps before and after
pub record IsRun {S : Type 0} (words : List Text) (left came : S → Option (List ℕ)) (failed : S → ℕ) (before after : S) (i j : ℕ) (old new : World) (s : Status) : Type 0 where
  pub defined : (t : Tree) → (ds : Definitions) × AreDefined (names_of (asked_of words)) t ds
  pub did : DoesCourse words (left before) (left after) old new s
  pub complete : IsComplete words (left before) (failed before) (failed after) old new s
  pub some : AnswersSome words old new s
  pub can : can_end (asked_of words) s ≡ true
  pub cause : Cause s (failed before) (failed after) old new
  pub checked : Checks words old new s
  pub shown : Shows words old new s
  pub maintained : Maintains words (left before) old new s
  pub cut_off : StopsAtSync words (left before) (left after) old new s
  pub stacked : Stacks words (left before) old new s
  pub stack_cut_off : StackStopsAtSync words (left before) (left after) old new s
  pub fed : Feeds words (left before) old new s
  pub fed_cut_off : FeedStopsAtSync words (left before) (left after) old new s
  pub verified : Verifies words old new s
  pub differs : TellsDifference words old s
  pub applied : Applies words (left before) old new s
  pub unapplied : AppliesNothing words (left before) old new s
  pub loaded : Loads words old new s
  pub whole : ReadsWhole words (left before) (left after) s
  pub unchanged : KeepsAll words old new s
  pub others : KeepsOthers words (left before) old new
  pub between : LeavesBetween words (left before) old new
  pub took : TakesLittle words (left before) (left after) (came after) old new s
  pub enough : TakesEnough words (left before) (left after) (came after) old s
  pub alone : (r : Request) → Asks words old r → (course_of r).reads ≡ false → after ≡ before
  pub only_read : only_reads (asked_of words) ≡ true → OnlyRead old.store new.store
  pub store : uses_store (asked_of words) ≡ false → new.store ≡ old.store
  pub rest : reads_input (asked_of words) ≡ false → left after ≡ left before
  pub faults : reads_input (asked_of words) ≡ false → failed after ≡ failed before
  pub rises : i ≤ j
  pub steps : counts (asked_of words) ≡ false → j ≡ i
  pub within : TakesSteps words (left before) old i j
