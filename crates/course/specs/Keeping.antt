-- What a run keeps of what it accepts before it answers, and what a crash leaves of that.
use Rattle.std.specs.Prelude.{◌≡◌, ◌≤◌, ◌⊎◌, ℕ, List, [], ◌∷◌, ◌++◌, length, Option, Some, None, Result, Ok, Err}
use Rattle.outside.specs.Counts.{Rose}
use Rattle.outside.specs.Effects.{Effect, World, contents, performed}
use Rattle.tab_lines.specs.Lines.{lines_of, whole_lines}
use Rattle.course.specs.declared.status.Verdict.{Verdict}
use Rattle.course.specs.declared.status.LineStop.{LineStop}
use Rattle.course.specs.declared.status.LineStop.TheVariants as line_stop
use Rattle.course.specs.declared.status.Halt.{Halt}
use Rattle.course.specs.declared.status.Halt.TheVariants as halt
use Rattle.course.specs.declared.no_disk.NoDisk.{NoDisk}
use Rattle.course.specs.Answering.{Reply, Continues, Finishes, next_reply, follow}

-- a group that is kept: the lines of its changes
abbrev pub Entry : Type 0
Entry = List (List ℕ)

-- how a disk is seen: its moment, what a crash at some moment from one on might have left, how often it failed, and which entries bytes hold
pub record Log (D : Type 0) : Type 1 where
  pub moment : D → ℕ
  pub left_since : D → ℕ → List ℕ → Type 0
  pub faults : D → ℕ
  pub reads : List ℕ → Option (List Entry)

-- no disk: a crash leaves nothing of it, and it never fails
abbrev pub no_log : Log NoDisk
no_log = record { moment = λ d. 0; left_since = λ d t c. ⊥; faults = λ d. 0; reads = λ c. None }

-- a crash now leaves just these entries
abbrev pub LeavesNow : {D : Type 0} → Log D → List Entry → D → Type 0
LeavesNow log es d = (c : List ℕ) → log.left_since d (log.moment d) c → log.reads c ≡ Some es

-- bytes hold some entries, and a front of those that follow
pub record HasFront (reads : List ℕ → Option (List Entry)) (es more : List Entry) (c : List ℕ) : Type 0 where
  pub front : List Entry
  pub rest : List Entry
  pub are : more ≡ front ++ rest
  pub hold : reads c ≡ Some (es ++ front)

abbrev pub LeavesFrontNow : {D : Type 0} → Log D → List Entry → List Entry → D → Type 0
LeavesFrontNow log es more d = (c : List ℕ) → log.left_since d (log.moment d) c → HasFront log.reads es more c

-- whatever a crash could have left before, at every moment from old to new it leaves nothing else than some entries and a front of those that follow
pub record LeavesFronts {D : Type 0} (log : Log D) (es more : List Entry) (old new : D) : Type 0 where
  pub later : log.moment old ≤ log.moment new
  pub each : (t : ℕ) (c : List ℕ) → t ≤ log.moment old → log.left_since new t c → log.left_since old t c ⊎ HasFront log.reads es more c

-- what is kept of a line
abbrev pub note_of : {A : Type 0} → (A → List ℕ → List Entry) → List ℕ → Reply A → List Entry
note_of note line (Continues es a) = note a line
note_of note line (Finishes es s) = []

-- and of these lines
abbrev pub noted : {A : Type 0} → (A → List ℕ → Reply A) → (A → List ℕ → List Entry) → List (List ℕ) → Reply A → List Entry
noted step note [] r = []
noted step note (line ∷ lines) r = note_of note line r ++ noted step note lines (next_reply step line r)

-- what the answer to a line kept: all of it where it ended; where it stopped, all of it, or a front of it and then nothing was done
abbrev pub KeptBy : {D : Type 0} → Log D → List Entry → List Entry → D → World → World → Result (Option Verdict) LineStop → Type 0
KeptBy log es notes new old_world new_world (Ok v) = LeavesNow log (es ++ notes) new
KeptBy log es notes new old_world new_world (Err e) = LeavesNow log (es ++ notes) new ⊎ ((contents new_world ≡ contents old_world) × LeavesFrontNow log es notes new)

-- the answer to a line keeps its notes before it does anything else
pub record Keeps {D : Type 0} (log : Log D) (es notes : List Entry) (old new : D) (old_world new_world : World) (r : Result (Option Verdict) LineStop) : Type 0 where
  pub fronts : LeavesFronts log es notes old new
  pub kept : KeptBy log es notes new old_world new_world r

-- of the lines of a told input some were answered, and then one is under way, or none
pub record AreFirst (input : Option (List ℕ)) (answered under_way : List (List ℕ)) : Type 0 where
  pub told : (bytes : List ℕ) → input ≡ Some bytes → (more : List (List ℕ)) × (lines_of bytes ≡ answered ++ under_way ++ more)

-- the input gave out: the lines that were answered are the whole ones of the bytes taken
pub record AreTaken (input rest : Option (List ℕ)) (answered : List (List ℕ)) : Type 0 where
  pub told : (bytes : List ℕ) → input ≡ Some bytes → (taken : List ℕ) × (left : List ℕ) × (bytes ≡ taken ++ left) × (rest ≡ Some left) × (answered ≡ whole_lines taken)

-- all lines of the input that are kept were answered
pub record AreAllNoted {A : Type 0} (step : A → List ℕ → Reply A) (note : A → List ℕ → List Entry) (start : A) (input : Option (List ℕ)) (answered : List (List ℕ)) : Type 0 where
  pub told : (bytes : List ℕ) → input ≡ Some bytes → noted step note (lines_of bytes) (Continues [] start) ≡ noted step note answered (Continues [] start)

-- what a run kept at its end, by how it ended: what all lines keep; what those that were answered keep, where the input gave out; or that and a front of what the line under way keeps, which is all of it where something of its answer was done
abbrev pub KeptAtEnd : {A D : Type 0} → (A → List ℕ → Reply A) → (A → List ℕ → List Entry) → Log D → A → List Entry → Option (List ℕ) → Option (List ℕ) → List (List ℕ) → List (List ℕ) → List Effect → A → D → World → World → Result Verdict Halt → Type 0
KeptAtEnd step note log start es input rest answered under_way effects state new old_world new_world (Ok v) =
    LeavesNow log (es ++ noted step note (answered ++ under_way) (Continues [] start)) new × AreAllNoted step note start input (answered ++ under_way)
KeptAtEnd step note log start es input rest answered under_way effects state new old_world new_world (Err halt.InputFault) =
    LeavesNow log (es ++ noted step note answered (Continues [] start)) new × AreTaken input rest answered × (under_way ≡ [])
KeptAtEnd step note log start es input rest answered under_way effects state new old_world new_world (Err halt.TooLong) =
    LeavesNow log (es ++ noted step note answered (Continues [] start)) new × AreTaken input rest answered × (under_way ≡ [])
KeptAtEnd step note log start es input rest answered under_way effects state new old_world new_world (Err h) =
    LeavesNow log (es ++ noted step note (answered ++ under_way) (Continues [] start)) new
    ⊎ ((contents new_world ≡ performed effects (contents old_world)) × LeavesFrontNow log (es ++ noted step note answered (Continues [] start)) (noted step note under_way (Continues effects state)) new)

-- what a whole run keeps: at every moment a crash leaves the entries that were there before it, and a front of those of the lines that were answered and the one under way; and at its end all of them but for that one's
pub record KeptOver {A D : Type 0} (step : A → List ℕ → Reply A) (note : A → List ℕ → List Entry) (log : Log D) (start : A) (es : List Entry) (input rest : Option (List ℕ)) (old new : D) (old_world new_world : World) (r : Result Verdict Halt) : Type 0 where
  pub answered : List (List ℕ)
  pub under_way : List (List ℕ)
  pub few : length under_way ≤ 1
  pub effects : List Effect
  pub state : A
  pub first : AreFirst input answered under_way
  pub goes : follow step answered (Continues [] start) ≡ Continues effects state
  pub fronts : LeavesFronts log es (noted step note (answered ++ under_way) (Continues [] start)) old new
  pub kept : KeptAtEnd step note log start es input rest answered under_way effects state new old_world new_world r

-- the disk is blamed where its count of failed calls rose
abbrev pub DiskCause : {A : Type 0} → Result A Halt → ℕ → ℕ → Type 0
DiskCause (Err halt.DiskFault) i j = Rose i j
DiskCause r i j = Unit {0}

abbrev pub LineDiskCause : {A : Type 0} → Result A LineStop → ℕ → ℕ → Type 0
LineDiskCause (Err line_stop.DiskFault) i j = Rose i j
LineDiskCause r i j = Unit {0}

-- how often the disk had failed before and after, and that it did where a run was held up by it
pub record BlamesDisk {A : Type 0} (i j : ℕ) (r : Result A Halt) : Type 0 where
  pub later : i ≤ j
  pub because : DiskCause r i j

pub record LineBlamesDisk {A : Type 0} (i j : ℕ) (r : Result A LineStop) : Type 0 where
  pub later : i ≤ j
  pub because : LineDiskCause r i j
