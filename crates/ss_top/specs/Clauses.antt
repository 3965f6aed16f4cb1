-- The promises of `run`, each over the words, what was left of the input, the outside and the status. What the words ask is a request; most promises are about one of a command with one view.
use Rattle.std.specs.Prelude.{◌≡◌, ◌≢◌, ℕ, ◌<◌, true, false, List, length, map, Option, Some}
use Rattle.ss_text.specs.Texts.{Text}
use Rattle.tab_lines.specs.Lines.{lines_of}
use Rattle.tab_lines.specs.Taking.{most_taken}
use Rattle.outside.specs.Tree.{Tree}
use Rattle.outside.specs.Effects.{World, contents}
use Rattle.course.specs.declared.exit.Status.{Status}
use Rattle.course.specs.declared.exit.Status.TheVariants as status
use Rattle.course.specs.Course.{Did, DidSome, Took, TookEnough, NoFault, Finished, IsReadWhole, is_done_status, is_fault_status, is_long_status, is_refused_status, is_unread_status, GaveOutStatus}
use Rattle.course.specs.Idle.{Unchanged}
use Rattle.view_stages.specs.Stages.{DefinitionOrRefusal}
use Rattle.plain_commands.specs.Applies.{IsApplied}
use Rattle.plain_commands.specs.Loads.{IsLoaded}
use Rattle.plain_commands.specs.Promises.{IsChecked, IsShown, IsVerified, Differs}
use Rattle.upkeep_law.specs.Promises.{IsMaintained, IsCutOff}
use Rattle.stack_law.specs.Promises.{AreMaintained, AreCutOff}
use Rattle.feed_law.specs.Promises.{IsFed, IsFedCutOff}
use Rattle.ss_top.specs.Commands.{Check, Show, Maintain, Verify, Apply, Feed, Load, asked_of, reads_input}
use Rattle.ss_top.specs.Runs.{Definitions, Request, Asks, Told, StepsOf, of_view, of_views, course_of}
use Rattle.ss_top.specs.Between.{IsLeftBetween}
use Rattle.ss_top.specs.Promises.{KeepsBut}

-- the run does what the course of its words says, where the input tells its bytes if they read it
abbrev pub DoesCourse : List Text → Option (List ℕ) → Option (List ℕ) → World → World → Status → Type 0
DoesCourse words input rest old new s = (r : Request) (bytes : List ℕ) → Asks words old r → Told (reads_input r.asked) input bytes → Did (course_of r) bytes rest old new s

-- where no call failed and the input is not too long, all of it is done, unless memory lacks: i and j count the failed reads of the input
abbrev pub IsComplete : List Text → Option (List ℕ) → ℕ → ℕ → World → World → Status → Type 0
IsComplete words input i j old new s =
    (r : Request) (bytes : List ℕ) → Asks words old r → Told (reads_input r.asked) input bytes
    → NoFault i j old new → length bytes < most_taken → s ≢ status.NoMemory → Finished ((course_of r).whole (lines_of bytes)) old new s

-- `check` is done where the definition was accepted
abbrev pub Checks : List Text → World → World → Status → Type 0
Checks words old new s = (name : Text) (t : Tree) (d : DefinitionOrRefusal) → Asks words old (of_view Check name t d) → s ≡ status.Done → IsChecked d old new

-- `show` is done where the view is shown
abbrev pub Shows : List Text → World → World → Status → Type 0
Shows words old new s = (name : Text) (t : Tree) (d : DefinitionOrRefusal) → Asks words old (of_view Show name t d) → s ≡ status.Done → IsShown d t old new

-- `maintain` is done where the view is kept up to date over all lines of the input
abbrev pub Maintains : List Text → Option (List ℕ) → World → World → Status → Type 0
Maintains words input old new s =
    (name : Text) (t : Tree) (bytes : List ℕ) (d : DefinitionOrRefusal) → Asks words old (of_view Maintain name t d) → input ≡ Some bytes
    → is_done_status s ≡ true → IsMaintained d t (lines_of bytes) old new s

-- where the input gave out, the view's folder and the sources are those of the last sync: at 9, or at 6 where no read of the store failed
abbrev pub StopsAtSync : List Text → Option (List ℕ) → Option (List ℕ) → World → World → Status → Type 0
StopsAtSync words input rest old new s =
    (name : Text) (t : Tree) (bytes : List ℕ) (d : DefinitionOrRefusal) → Asks words old (of_view Maintain name t d) → input ≡ Some bytes
    → GaveOutStatus old new s → IsCutOff d t bytes rest old new

-- `stack` is done where each level is kept up to date over the one below, over all lines of the input
abbrev pub Stacks : List Text → Option (List ℕ) → World → World → Status → Type 0
Stacks words input old new s =
    (names : List Text) (t : Tree) (bytes : List ℕ) (ds : Definitions) → Asks words old (of_views names t ds) → input ≡ Some bytes
    → is_done_status s ≡ true → AreMaintained (map ds names) t (lines_of bytes) old new s

-- where its input gave out, so it is up to the last sync
abbrev pub StackStopsAtSync : List Text → Option (List ℕ) → Option (List ℕ) → World → World → Status → Type 0
StackStopsAtSync words input rest old new s =
    (names : List Text) (t : Tree) (bytes : List ℕ) (ds : Definitions) → Asks words old (of_views names t ds) → input ≡ Some bytes
    → GaveOutStatus old new s → AreCutOff (map ds names) t bytes rest old new

-- `feed` is done where the changes of each source were handled in turn over all lines of the input, and the view is kept up to date
abbrev pub Feeds : List Text → Option (List ℕ) → World → World → Status → Type 0
Feeds words input old new s =
    (name : Text) (t : Tree) (bytes : List ℕ) (d : DefinitionOrRefusal) → Asks words old (of_view Feed name t d) → input ≡ Some bytes
    → is_done_status s ≡ true → IsFed d t (lines_of bytes) old new s

-- where its input gave out, so it is of the lines that were read, and the view's folder and the sources are those of the last sync
abbrev pub FeedStopsAtSync : List Text → Option (List ℕ) → Option (List ℕ) → World → World → Status → Type 0
FeedStopsAtSync words input rest old new s =
    (name : Text) (t : Tree) (bytes : List ℕ) (d : DefinitionOrRefusal) → Asks words old (of_view Feed name t d) → input ≡ Some bytes
    → GaveOutStatus old new s → IsFedCutOff d t bytes rest old new

-- `verify` is done where the folder holds what is meant
abbrev pub Verifies : List Text → World → World → Status → Type 0
Verifies words old new s = (name : Text) (t : Tree) (d : DefinitionOrRefusal) → Asks words old (of_view Verify name t d) → s ≡ status.Done → IsVerified d t old new

-- and it says that a folder differs where it does
abbrev pub TellsDifference : List Text → World → Status → Type 0
TellsDifference words old s = (name : Text) (t : Tree) (d : DefinitionOrRefusal) → Asks words old (of_view Verify name t d) → s ≡ status.NoView → Differs d t

-- `apply` is done where the script that the input says is applied to the view's folder
abbrev pub Applies : List Text → Option (List ℕ) → World → World → Status → Type 0
Applies words input old new s =
    (name : Text) (t : Tree) (bytes : List ℕ) (d : DefinitionOrRefusal) → Asks words old (of_view Apply name t d) → input ≡ Some bytes
    → s ≡ status.Done → IsApplied d t (lines_of bytes) old new

-- where it could not read on, `apply` has done nothing
abbrev pub AppliesNothing : List Text → Option (List ℕ) → World → World → Status → Type 0
AppliesNothing words input old new s =
    (name : Text) (t : Tree) (bytes : List ℕ) (d : DefinitionOrRefusal) → Asks words old (of_view Apply name t d) → input ≡ Some bytes
    → is_unread_status s ≡ true → contents new ≡ contents old

-- `load` is done where the line of its run is printed
abbrev pub Loads : List Text → World → World → Status → Type 0
Loads words old new s = (r : Request) (changes seed : ℕ) → Asks words old r → r.asked ≡ Load changes seed → s ≡ status.Done → IsLoaded changes seed old new

-- where a run is done, the whole input was read
abbrev pub ReadsWhole : List Text → Option (List ℕ) → Option (List ℕ) → Status → Type 0
ReadsWhole words input rest s = (bytes : List ℕ) → reads_input (asked_of words) ≡ true → is_done_status s ≡ true → input ≡ Some bytes → IsReadWhole bytes rest

-- a run that is refused changes nothing, whatever its input tells
abbrev pub KeepsAll : List Text → World → World → Status → Type 0
KeepsAll words old new s = (r : Request) → Asks words old r → is_refused_status s ≡ true → Unchanged old new

-- whatever the status, only the `.csv` files of the folders of the views are changed, and the sources that accepted changes named
abbrev pub KeepsOthers : List Text → Option (List ℕ) → World → World → Type 0
KeepsOthers words input old new = (r : Request) → Asks words old r → old.store.tree ≡ Some r.tree → KeepsBut r input new

-- wherever a run ends or breaks off, all files and folders but the views' own are as a sync found them, or all are as it leaves them; each of the views' own is the one or the other, but for a file that was being written or removed; and in `apply` they too are all the one or all the other
abbrev pub LeavesBetween : List Text → Option (List ℕ) → World → World → Type 0
LeavesBetween words input old new = (r : Request) → Asks words old r → old.store.tree ≡ Some r.tree → IsLeftBetween r input new

-- whatever the input tells, some lines were answered in turn, and the status is that of their course, or it gave up on the way
abbrev pub AnswersSome : List Text → World → World → Status → Type 0
AnswersSome words old new s = (r : Request) → Asks words old r → DidSome (course_of r) old new s

-- a run that gave up took no more of its input than it answered, the line under way and what its last read gave, and its input was too long just where the status says so
abbrev pub TakesLittle : List Text → Option (List ℕ) → Option (List ℕ) → Option (List ℕ) → World → World → Status → Type 0
TakesLittle words input rest last old new s =
    (r : Request) (bytes : List ℕ) → Asks words old r → reads_input r.asked ≡ true → input ≡ Some bytes → is_fault_status s ≡ true → Took (course_of r) bytes rest last old new (is_long_status s)

-- and one that ended took all of its input, or no more than the line needs that ended it
abbrev pub TakesEnough : List Text → Option (List ℕ) → Option (List ℕ) → Option (List ℕ) → World → Status → Type 0
TakesEnough words input rest last old s =
    (r : Request) (bytes : List ℕ) → Asks words old r → reads_input r.asked ≡ true → input ≡ Some bytes → is_fault_status s ≡ false → TookEnough (course_of r) bytes rest last

-- however a run ends, `maintain` and `feed` took no more steps than the answers to the lines of its input may, and none where the view was not opened: i and j are those before and after
abbrev pub TakesSteps : List Text → Option (List ℕ) → World → ℕ → ℕ → Type 0
TakesSteps words input old i j =
    (r : Request) (bytes : List ℕ) → Asks words old r → Told (reads_input r.asked) input bytes → StepsOf r.asked r.tree r.definitions (lines_of bytes) i j
