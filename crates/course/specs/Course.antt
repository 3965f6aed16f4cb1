-- What a whole run does, by what it is asked and by what the outside tells.
use Rattle.std.specs.Prelude.{◌≡◌, ℕ, ◌≤◌, Bool, true, false, List, [], ◌∷◌, ◌++◌, length, ◌⊎◌, Option, None, Some, Result, Ok, Err}
use Rattle.outside.specs.Counts.{Rose}
use Rattle.outside.specs.Streams.{CameLast}
use Rattle.outside.specs.Effects.{Effect, World, contents, performed, Partly}
use Rattle.outside.specs.declared.stop.Stop.TheVariants as stop
use Rattle.course.specs.declared.status.Verdict.{Verdict}
use Rattle.course.specs.declared.status.Verdict.TheVariants as verdict
use Rattle.course.specs.declared.status.Halt.{Halt}
use Rattle.course.specs.declared.status.Halt.TheVariants as halt
use Rattle.tab_lines.specs.Lines.{has_feed, lines_of, whole_lines}
use Rattle.tab_lines.specs.Taking.{most_taken}
pub use Rattle.course.specs.Answering.{IsReadWhole}
use Rattle.course.specs.Answering.{Reply, Continues, Finishes, Ending, Ended, EndedOver, IsDue, EndsWhole, follow, course}
use Rattle.course.specs.declared.exit.Status.{Status}
use Rattle.course.specs.declared.exit.Status.TheVariants as status

-- whether an input is read at all; what is done over an input of these lines; and what is done until these are answered, where a run goes on behind them
pub record Course : Type 0 where
  pub reads : Bool
  pub whole : List (List ℕ) → Ending
  pub so_far : List (List ℕ) → Option (List Effect)

-- no input is read
abbrev pub unread : Ending → Course
unread e = record { reads = false; whole = λ _. e; so_far = λ _. None }

-- these effects, and then an ending
abbrev pub first : List Effect → Ending → Ending
first es e = record { effects = es ++ e.effects; status = e.status }

abbrev pub goes_so_far : {A : Type 0} → List Effect → Reply A → Option (List Effect)
goes_so_far es (Continues fs a) = Some (es ++ fs)
goes_so_far es (Finishes fs s) = None

-- an opening, and then the lines of the input
abbrev pub by_lines : {A : Type 0} → (A → List ℕ → Reply A) → (A → Ending) → Reply A → Course
by_lines step finish (Finishes es s) = unread (record { effects = es; status = s })
by_lines step finish (Continues es a) = record {
  reads = true;
  whole = λ lines. first es (course step finish a lines);
  so_far = λ lines. goes_so_far es (follow step lines (Continues [] a));
}

-- whether all was done, though some line may have been refused
abbrev pub is_done : Verdict → Bool
is_done verdict.Done = true
is_done verdict.SomeRefused = true
is_done v = false

-- the status of a verdict
abbrev pub verdict_status : Verdict → Status
verdict_status verdict.Done = status.Done
verdict_status verdict.SomeRefused = status.SomeRefused
verdict_status verdict.Usage = status.Usage
verdict_status verdict.BadDefinition = status.BadDefinition
verdict_status verdict.BadCatalogue = status.BadCatalogue
verdict_status verdict.NoView = status.NoView
verdict_status verdict.JournalFull = status.JournalFull

-- the status of an ending
abbrev pub status_of : Result Verdict Halt → Status
status_of (Ok v) = verdict_status v
status_of (Err halt.InputFault) = status.ReadFault
status_of (Err halt.TooLong) = status.TooLong
status_of (Err halt.DiskFault) = status.DiskFault
status_of (Err (halt.Stopped stop.ReadFault)) = status.ReadFault
status_of (Err (halt.Stopped stop.WriteFault)) = status.WriteFault
status_of (Err (halt.Stopped stop.NoMemory)) = status.NoMemory

-- the input gave out after some bytes: exactly what they ask for was done
pub record GaveOut (c : Course) (bytes : List ℕ) (rest : Option (List ℕ)) (old new : World) : Type 0 where
  pub taken : List ℕ
  pub left : List ℕ
  pub split : bytes ≡ taken ++ left
  pub remains : rest ≡ Some left
  pub effects : List Effect
  pub meant : c.so_far (whole_lines taken) ≡ Some effects
  pub done : contents new ≡ performed effects (contents old)

-- the disk failed: the lines before one of the input were answered, and nothing else was done
pub record HeldUp (c : Course) (bytes : List ℕ) (old new : World) : Type 0 where
  pub answered : List (List ℕ)
  pub line : List ℕ
  pub more : List (List ℕ)
  pub are : lines_of bytes ≡ answered ++ line ∷ more
  pub effects : List Effect
  pub meant : c.so_far answered ≡ Some effects
  pub done : contents new ≡ performed effects (contents old)

-- all of it was done, and the status is that of its end
pub record Finished (e : Ending) (old new : World) (s : Status) : Type 0 where
  pub status : s ≡ verdict_status e.status
  pub done : contents new ≡ performed e.effects (contents old)

-- what was done where a run ends so: all of it; or up to some place, where the one effect under way may have broken off; or exactly what the bytes taken ask for, which are 2^32 where the input is too long; or what the lines ask for before the one at which the disk failed; or nothing, where the store could not be read
abbrev pub Did : Course → List ℕ → Option (List ℕ) → World → World → Status → Type 0
Did c bytes rest old new status.ReadFault = (Rose old.store.read_faults new.store.read_faults × (contents new ≡ contents old)) ⊎ GaveOut c bytes rest old new
Did c bytes rest old new status.WriteFault = Partly (c.whole (lines_of bytes)).effects (contents old) (contents new)
Did c bytes rest old new status.NoMemory = Partly (c.whole (lines_of bytes)).effects (contents old) (contents new)
Did c bytes rest old new status.TooLong = (g : GaveOut c bytes rest old new) × (length g.taken ≡ most_taken)
Did c bytes rest old new status.DiskFault = HeldUp c bytes old new
Did c bytes rest old new s = Finished (c.whole (lines_of bytes)) old new s

-- the lines of the first bytes were answered, and behind them no more was taken than a line and what the last read gave. rest, last: what the input has left, and what its last read gave; long: whether the run gave up since the input is too long
pub record TookLittle (c : Course) (bytes : List ℕ) (rest last : Option (List ℕ)) (old new : World) (long : Bool) : Type 0 where
  pub answered : List ℕ
  pub line : List ℕ
  pub piece : List ℕ
  pub left : List ℕ
  pub split : bytes ≡ answered ++ line ++ piece ++ left
  pub remains : rest ≡ Some left
  pub one_line : has_feed line ≡ false
  pub few : length piece ≤ 65536
  pub one_read : CameLast last piece
  pub due : IsDue long (answered ++ line ++ piece) (line ++ piece)
  pub effects : List Effect
  pub later : List Effect
  pub meant : c.so_far (lines_of answered) ≡ Some effects
  pub all : (c.whole (lines_of bytes)).effects ≡ effects ++ later
  pub did : Partly later (performed effects (contents old)) (contents new)

-- what a run that gave up took of its input: nothing, or little
abbrev pub Took : Course → List ℕ → Option (List ℕ) → Option (List ℕ) → World → World → Bool → Type 0
Took c bytes rest last old new long = ((rest ≡ Some bytes) × (long ≡ false)) ⊎ TookLittle c bytes rest last old new long

-- a line ended the run: it is whole in the first 2^32 bytes, and behind it no more was taken than what the last read gave
pub record EndedByLine (c : Course) (bytes : List ℕ) (rest last : Option (List ℕ)) : Type 0 where
  pub answered : List ℕ
  pub piece : List ℕ
  pub left : List ℕ
  pub split : bytes ≡ answered ++ piece ++ left
  pub remains : rest ≡ Some left
  pub within : length (answered ++ piece) ≤ most_taken
  pub whole : EndsWhole answered bytes rest
  pub few : length piece ≤ 65536
  pub one_read : CameLast last piece
  pub ends : c.so_far (lines_of answered) ≡ None

-- what a run that ended took of its input, where it reads one: all of it, or no more than the line needs that ended it
abbrev pub TookEnough : Course → List ℕ → Option (List ℕ) → Option (List ℕ) → Type 0
TookEnough c bytes rest last = c.reads ≡ true → IsReadWhole bytes rest ⊎ EndedByLine c bytes rest last

-- a fault comes only where a count of faults rose: i and j are those of the input; and no command that uses no disk is held up by one
abbrev pub Cause : Status → ℕ → ℕ → World → World → Type 0
Cause status.ReadFault i j old new = Rose i j ⊎ Rose old.store.read_faults new.store.read_faults
Cause status.WriteFault i j old new = Rose old.store.write_faults new.store.write_faults ⊎ Rose old.output.faults new.output.faults
Cause status.DiskFault i j old new = ⊥
Cause s i j old new = Unit {0}

-- no count of faults rose: i and j are those of the input
pub record NoFault (i j : ℕ) (old new : World) : Type 0 where
  pub input : Rose i j → ⊥
  pub reads : Rose old.store.read_faults new.store.read_faults → ⊥
  pub writes : Rose old.store.write_faults new.store.write_faults → ⊥
  pub prints : Rose old.output.faults new.output.faults → ⊥

-- what a command did
abbrev pub RanBy : Course → List ℕ → Option (List ℕ) → World → World → Result Verdict Halt → Type 0
RanBy c bytes rest old new (Ok v) = Ended (c.whole (lines_of bytes)) old new (Ok v)
RanBy c bytes rest old new (Err halt.InputFault) = GaveOut c bytes rest old new
RanBy c bytes rest old new (Err halt.TooLong) = (g : GaveOut c bytes rest old new) × (length g.taken ≡ most_taken)
RanBy c bytes rest old new (Err halt.DiskFault) = HeldUp c bytes old new
RanBy c bytes rest old new (Err (halt.Stopped e)) = Partly (c.whole (lines_of bytes)).effects (contents old) (contents new)

-- what a command did, whatever its input tells: some lines were answered in turn
pub record RanSome (c : Course) (old new : World) (r : Result Verdict Halt) : Type 0 where
  pub lines : List (List ℕ)
  pub ran : EndedOver (c.whole lines) old new r

-- the whole input was read, where all was done
abbrev pub IsWholeInput : List ℕ → Option (List ℕ) → Result Verdict Halt → Type 0
IsWholeInput bytes rest (Ok v) = is_done v ≡ true → IsReadWhole bytes rest
IsWholeInput bytes rest (Err h) = Unit {0}

-- whether a status says that a run gave up before its end
abbrev pub is_fault_status : Status → Bool
is_fault_status status.ReadFault = true
is_fault_status status.WriteFault = true
is_fault_status status.NoMemory = true
is_fault_status status.TooLong = true
is_fault_status status.DiskFault = true
is_fault_status s = false

-- and whether since the input is too long
abbrev pub is_long_status : Status → Bool
is_long_status status.TooLong = true
is_long_status s = false

-- whether a status says that all was done, though some line may have been refused
abbrev pub is_done_status : Status → Bool
is_done_status status.Done = true
is_done_status status.SomeRefused = true
is_done_status s = false

-- whether a status says that the definition, the sources or the view was refused, or that the view's folder differs
abbrev pub is_refused_status : Status → Bool
is_refused_status status.BadDefinition = true
is_refused_status status.BadCatalogue = true
is_refused_status status.NoView = true
is_refused_status s = false

-- what a run did that ended so over some lines: all of it, or a front of it where it gave up
abbrev pub DidOver : Ending → World → World → Status → Type 0
DidOver e old new status.ReadFault = Partly e.effects (contents old) (contents new)
DidOver e old new status.WriteFault = Partly e.effects (contents old) (contents new)
DidOver e old new status.NoMemory = Partly e.effects (contents old) (contents new)
DidOver e old new status.TooLong = Partly e.effects (contents old) (contents new)
DidOver e old new status.DiskFault = Partly e.effects (contents old) (contents new)
DidOver e old new s = Finished e old new s

-- whatever its input tells, it answered some lines in turn
pub record DidSome (c : Course) (old new : World) (s : Status) : Type 0 where
  pub lines : List (List ℕ)
  pub did : DidOver (c.whole lines) old new s

-- whether a status says that a run ended since it could not read on
abbrev pub is_unread_status : Status → Bool
is_unread_status status.ReadFault = true
is_unread_status status.TooLong = true
is_unread_status s = false

-- the input gave out, by its status: it was too long, or reading failed, though not that of the store
abbrev pub GaveOutStatus : World → World → Status → Type 0
GaveOutStatus old new status.TooLong = Unit {0}
GaveOutStatus old new status.ReadFault = Rose old.store.read_faults new.store.read_faults → ⊥
GaveOutStatus old new s = ⊥
