-- What a whole run of a machine does and keeps behind its opening, and what a disk that fails leaves.
use Rattle.std.specs.Prelude.{◌≡◌, ◌≤◌, ◌⊎◌, ℕ, List, [], ◌++◌, length, Option, Result, Err}
use Rattle.outside.specs.Effects.{Effect, World, contents}
use Rattle.course.specs.declared.status.Verdict.{Verdict}
use Rattle.course.specs.declared.status.Halt.{Halt}
use Rattle.course.specs.declared.status.Halt.TheVariants as halt
use Rattle.course.specs.Answering.{Reply, Continues, Finishes, follow}
use Rattle.course.specs.Keeping.{Entry, Log, LeavesNow, LeavesFronts, AreFirst, KeptAtEnd, noted}
use Rattle.course.specs.Course.{Course, HeldUp, RanBy}

-- what a run did; the disk may have failed before its opening did anything
abbrev pub RanOver : Course → List ℕ → Option (List ℕ) → World → World → Result Verdict Halt → Type 0
RanOver c bytes rest old new (Err halt.DiskFault) = (contents new ≡ contents old) ⊎ HeldUp c bytes old new
RanOver c bytes rest old new r = RanBy c bytes rest old new r

-- nothing was kept, and no entry was lost
pub record KeptNothing {D : Type 0} (log : Log D) (es : List Entry) (old new : D) : Type 0 where
  pub fronts : LeavesFronts log es [] old new
  pub kept : LeavesNow log es new

module _ {A D : Type 0} (step : A → List ℕ → Reply A) (note : A → List ℕ → List Entry) (log : Log D) where
  -- what a run kept behind an opening with these effects, which keeps nothing: at every moment a crash leaves the entries that were there before it, and a front of those of the lines that were answered and the one under way; and at its end all of them but for that one's
  pub record KeptBehind (opening : List Effect) (start : A) (es : List Entry) (input rest : Option (List ℕ)) (old new : D) (old_world new_world : World) (r : Result Verdict Halt) : Type 0 where
    pub answered : List (List ℕ)
    pub under_way : List (List ℕ)
    pub few : length under_way ≤ 1
    pub effects : List Effect
    pub state : A
    pub first : AreFirst input answered under_way
    pub goes : follow step answered (Continues [] start) ≡ Continues effects state
    pub fronts : LeavesFronts log es (noted step note (answered ++ under_way) (Continues [] start)) old new
    pub kept : KeptAtEnd step note log start es input rest answered under_way (opening ++ effects) state new old_world new_world r

  -- a run that its opening ended kept nothing
  abbrev pub KeptOpened : Reply A → List Entry → Option (List ℕ) → Option (List ℕ) → D → D → World → World → Result Verdict Halt → Type 0
  KeptOpened (Continues first start) es input rest old new old_world new_world r = KeptBehind first start es input rest old new old_world new_world r
  KeptOpened (Finishes first v) es input rest old new old_world new_world r = KeptNothing log es old new
