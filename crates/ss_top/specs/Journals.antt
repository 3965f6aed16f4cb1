-- The promises of `journal NAME`, each over the words, what was left of the input, the outside, the disk and the status. What the words ask is a request, where the store tells its tree and the disk its bytes.
use Rattle.std.specs.Prelude.{◌≡◌, ◌≢◌, ◌<◌, ◌≤◌, ◌⊎◌, ℕ, true, false, List, ◌++◌, length, Option, Some, Result}
use Rattle.ss_text.specs.Texts.{Text}
use Rattle.tab_lines.specs.Lines.{lines_of}
use Rattle.tab_lines.specs.Taking.{most_taken}
use Rattle.outside.specs.Counts.{Rose}
use Rattle.outside.specs.Tree.{Tree}
use Rattle.disk.specs.Disk.{Content}
use Rattle.outside.specs.Effects.{World}
use Rattle.course.specs.declared.status.Verdict.{Verdict}
use Rattle.course.specs.declared.status.Halt.{Halt}
use Rattle.course.specs.Keeping.{Entry, Log, LeavesNow, AreFirst}
use Rattle.course.specs.declared.exit.Status.{Status}
use Rattle.course.specs.declared.exit.Status.TheVariants as status
use Rattle.course.specs.Course as run
use Rattle.course.specs.Course.{Course, DidSome, Took, TookEnough, NoFault, Finished, IsReadWhole, by_lines, status_of, is_done_status, is_fault_status, is_long_status, is_refused_status, GaveOutStatus}
use Rattle.course.specs.Idle.{Unchanged}
use Rattle.view_stages.specs.Opened.{Keeps, view_exempt}
use Rattle.view_stages.specs.Opening.{IsDefinition, definition_bytes}
use Rattle.view_stages.specs.Stages.{DefinitionOrRefusal}
use Rattle.opened_view.specs.Limits.{StepsBy}
use Rattle.journal_answers.specs.Answers.{step, note, finish}
use Rattle.journal_answers.specs.Kept.{KeptOpened}
use Rattle.journal_answers.specs.Limits.{limit}
use Rattle.journal_answers.specs.Opening.{opening}
use Rattle.journal_answers.specs.Statuses.{can_journal}
use Rattle.journal_law.specs.Behind.{journal_stages_from}
use Rattle.journal_law.specs.Law.{JournalDid}
use Rattle.journal_law.specs.Promises.{IsReplayed, IsJournaled, IsJournalCutOff, IsJournalHeldUp, IsJournalFull, OpensAgain}
use Rattle.ss_top.specs.Between.{IsLeftIn}
use Rattle.ss_top.specs.Commands.{journal_of}

-- a view that is asked for with a journal: its name, the tree and the content of the disk that it is run over, and the definition of its name
pub record Request : Type 0 where
  pub name : Text
  pub tree : Tree
  pub held : Content
  pub definition : DefinitionOrRefusal

-- the words ask this of a store and of a disk that tell what they hold
pub record Asks (words : List Text) (old : World) (held : Option Content) (r : Request) : Type 0 where
  pub is : journal_of words ≡ Some r.name
  pub told : old.store.tree ≡ Some r.tree
  pub holds : held ≡ Some r.held
  pub defined : IsDefinition r.name (definition_bytes r.tree r.name) r.definition

-- its course
abbrev pub course_of : Request → Course
course_of r = by_lines step finish (opening r.tree r.held.bytes r.definition)

-- a fault comes only where a count of faults rose: i and j are those of the input, k and l those of the disk
abbrev pub JournalCause : Status → ℕ → ℕ → ℕ → ℕ → World → World → Type 0
JournalCause status.DiskFault i j k l old new = Rose k l
JournalCause s i j k l old new = run.Cause s i j old new

-- its name has a definition over every tree
abbrev pub HasDefinition : List Text → Type 0
HasDefinition words = (name : Text) (t : Tree) → journal_of words ≡ Some name → (d : DefinitionOrRefusal) × IsDefinition name (definition_bytes t name) d

-- the run does what its course says, where the input tells its bytes
abbrev pub DoesCourse : List Text → Option Content → Option (List ℕ) → Option (List ℕ) → World → World → Status → Type 0
DoesCourse words held input rest old new s = (r : Request) (bytes : List ℕ) → Asks words old held r → input ≡ Some bytes → JournalDid (course_of r) bytes rest old new s

-- where no call failed and the input is not too long, all of it is done, unless memory lacks: i and j count the failed reads of the input, k and l the failed calls of the disk
abbrev pub IsComplete : List Text → Option Content → Option (List ℕ) → ℕ → ℕ → ℕ → ℕ → World → World → Status → Type 0
IsComplete words held input i j k l old new s =
    (r : Request) (bytes : List ℕ) → Asks words old held r → input ≡ Some bytes
    → NoFault i j old new → (Rose k l → ⊥) → length bytes < most_taken → s ≢ status.NoMemory → Finished ((course_of r).whole (lines_of bytes)) old new s

-- whatever the input tells, some lines were answered in turn, and the status is that of their course, or it gave up on the way
abbrev pub AnswersSome : List Text → Option Content → World → World → Status → Type 0
AnswersSome words held old new s = (r : Request) → Asks words old held r → DidSome (course_of r) old new s

-- the statuses that it can give, whatever the store, the input, the output and the disk do
abbrev pub CanEnd : List Text → Status → Type 0
CanEnd words s = (name : Text) → journal_of words ≡ Some name → can_journal s ≡ true

abbrev pub Cause : List Text → Status → ℕ → ℕ → ℕ → ℕ → World → World → Type 0
Cause words s i j k l old new = (name : Text) → journal_of words ≡ Some name → JournalCause s i j k l old new

-- `journal` is done where the view is kept up to date with its journal over all lines of the input
abbrev pub Journals : List Text → Option Content → Option (List ℕ) → World → World → Status → Type 0
Journals words held input old new s =
    (r : Request) (bytes : List ℕ) → Asks words old held r → input ≡ Some bytes → is_done_status s ≡ true → IsJournaled r.definition r.tree r.held.bytes (lines_of bytes) old new s

-- where the input gave out, so it is up to the last sync: at 9, or at 6 where no read of the store failed
abbrev pub StopsAtSync : List Text → Option Content → Option (List ℕ) → Option (List ℕ) → World → World → Status → Type 0
StopsAtSync words held input rest old new s =
    (r : Request) (bytes : List ℕ) → Asks words old held r → input ≡ Some bytes → GaveOutStatus old new s → IsJournalCutOff r.definition r.tree r.held.bytes bytes rest old new

-- and where the disk failed, over the lines before one; or nothing was done
abbrev pub StopsAtFault : List Text → Option Content → Option (List ℕ) → World → World → Status → Type 0
StopsAtFault words held input old new s =
    (r : Request) (bytes : List ℕ) → Asks words old held r → input ≡ Some bytes → s ≡ status.DiskFault → IsJournalHeldUp r.definition r.tree r.held.bytes (lines_of bytes) old new

-- and where the journal has no room for the changes that a line makes, over the lines before it
abbrev pub StopsWhereFull : List Text → Option Content → Option (List ℕ) → World → World → Status → Type 0
StopsWhereFull words held input old new s =
    (r : Request) (bytes : List ℕ) → Asks words old held r → input ≡ Some bytes → s ≡ status.JournalFull → IsJournalFull r.definition r.tree r.held.bytes (lines_of bytes) old new

-- where it is done, the whole input was read
abbrev pub ReadsWhole : List Text → Option (List ℕ) → Option (List ℕ) → Status → Type 0
ReadsWhole words input rest s = (name : Text) (bytes : List ℕ) → journal_of words ≡ Some name → is_done_status s ≡ true → input ≡ Some bytes → IsReadWhole bytes rest

-- how a run ended with this status, and what it kept of its lines: at every moment a crash leaves the entries that the journal held before it, and a front of what its lines keep; and at its end all of that, but for the line under way
pub record Kept {D : Type 0} (r : Request) (log : Log D) (es : List Entry) (input rest : Option (List ℕ)) (before after : D) (old new : World) (s : Status) : Type 0 where
  pub ending : Result Verdict Halt
  pub is : s ≡ status_of ending
  pub kept : KeptOpened step note log (opening r.tree r.held.bytes r.definition) es input rest before after old new ending

-- so it is for a disk of which a crash leaves just these entries at first
abbrev pub KeepsAccepted : {D : Type 0} → List Text → Option Content → Log D → Option (List ℕ) → Option (List ℕ) → D → D → World → World → Status → Type 0
KeepsAccepted words held log input rest before after old new s = (r : Request) (es : List Entry) → Asks words old held r → LeavesNow log es before → Kept r log es input rest before after old new s

-- bytes open the view, over the sources of a run, just as it is behind some first lines of its input, the last of which may have been under way
pub record OpensBehind (r : Request) (es : List Entry) (input : Option (List ℕ)) (image : List ℕ) : Type 0 where
  pub replayed : IsReplayed r.definition r.tree r.held.bytes
  pub answered : List (List ℕ)
  pub under_way : List (List ℕ)
  pub few : length under_way ≤ 1
  pub first : AreFirst input answered under_way
  pub opens : OpensAgain replayed es (answered ++ under_way) image

-- so do those that a crash leaves at any moment of the run, or they have the entries that the journal held before it
abbrev pub Reopens : {D : Type 0} → List Text → Option Content → Log D → Option (List ℕ) → D → D → World → Type 0
Reopens words held log input before after old =
    (r : Request) (es : List Entry) (image : List ℕ) → Asks words old held r → LeavesNow log es before → log.left_since after (log.moment before) image
    → (log.reads image ≡ Some es) ⊎ OpensBehind r es input image

-- a run that is refused changes nothing, whatever its input tells
abbrev pub KeepsAll : List Text → Option Content → World → World → Status → Type 0
KeepsAll words held old new s = (r : Request) → Asks words old held r → is_refused_status s ≡ true → Unchanged old new

-- whatever the status, only the `.csv` files of the view's folder are changed
abbrev pub KeepsOthers : List Text → Option Content → World → World → Type 0
KeepsOthers words held old new = (r : Request) → Asks words old held r → Keeps (view_exempt r.definition) r.tree new

-- wherever a run ends or breaks off, each of the view's own files is as a sync found it or as it leaves it, but for one that was being written or removed
abbrev pub LeavesBetween : List Text → Option Content → Option (List ℕ) → World → World → Type 0
LeavesBetween words held input old new = (r : Request) → Asks words old held r → IsLeftIn (view_exempt r.definition) (journal_stages_from (opening r.tree r.held.bytes r.definition)) r.tree input new

-- a run that gave up took no more of its input than it answered, the line under way and what its last read gave, and its input was too long just where the status says so
abbrev pub TakesLittle : List Text → Option Content → Option (List ℕ) → Option (List ℕ) → Option (List ℕ) → World → World → Status → Type 0
TakesLittle words held input rest last old new s =
    (r : Request) (bytes : List ℕ) → Asks words old held r → input ≡ Some bytes → is_fault_status s ≡ true → Took (course_of r) bytes rest last old new (is_long_status s)

-- and one that ended took all of its input, or no more than the line needs that ended it
abbrev pub TakesEnough : List Text → Option Content → Option (List ℕ) → Option (List ℕ) → Option (List ℕ) → World → Status → Type 0
TakesEnough words held input rest last old s =
    (r : Request) (bytes : List ℕ) → Asks words old held r → input ≡ Some bytes → is_fault_status s ≡ false → TookEnough (course_of r) bytes rest last

-- a run that its opening ends reads nothing of its input
abbrev pub LeavesInput : {S : Type 0} → List Text → Option Content → World → S → S → Type 0
LeavesInput words held old before after = (r : Request) → Asks words old held r → (course_of r).reads ≡ false → after ≡ before

-- however a run ends, it took no more steps than the answers to the lines of its input may, and none where the view was not opened: i and j are those before and after
abbrev pub TakesSteps : List Text → Option Content → Option (List ℕ) → World → ℕ → ℕ → Type 0
TakesSteps words held input old i j =
    (r : Request) (bytes : List ℕ) → Asks words old held r → input ≡ Some bytes → StepsBy step limit (opening r.tree r.held.bytes r.definition) (lines_of bytes) i j
