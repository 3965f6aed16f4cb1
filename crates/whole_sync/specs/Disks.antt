-- What a disk holds, the calls that change it, and what is known of it at a moment.
use Rattle.std.specs.Prelude.{◌≡◌, ◌⊎◌, ℕ, ◌&&◌, List, [], ◌∷◌, ◌++◌, Option, None, Some, option_map, bytes_eq, if◌then◌else◌, Result, Ok, Err}
use Rattle.outside.specs.declared.fault.StoreFault.{StoreFault}
use Rattle.whole_sync.specs.declared.moves.Move.{Move}
use Rattle.whole_sync.specs.declared.moves.Move.TheVariants.{MakeFolder, TakePlace, Remove, RemoveFolder}

-- what each file holds, by its folder and its name
abbrev pub Files : Type 0
Files = List ℕ → List ℕ → Option (List ℕ)

-- the files in their places, what lies beside places by the names that it has there, and the list that is there
pub record Held : Type 0 where
  pub files : Files
  pub beside : List ℕ → Option (List ℕ)
  pub list : Option (List ℕ)

-- a call that changes what is there, or puts what was done before on the disk
pub data Call : Type 0 where
  PutBeside : (beside folder file bytes : List ℕ) → Call
  DropBeside : (beside : List ℕ) → Call
  PutList : (list : List ℕ) → Call
  DropList : Call
  Do : (move : Move) → Call
  Sync : Call
  Clean : Call

-- these files, but for one of them
abbrev pub with_file : List ℕ → List ℕ → Option (List ℕ) → Files → Files
with_file folder file content files f n = if bytes_eq f folder && bytes_eq n file then content else files f n

-- the same of what lies beside places
abbrev pub with_beside : List ℕ → Option (List ℕ) → (List ℕ → Option (List ℕ)) → List ℕ → Option (List ℕ)
with_beside name content beside n = if bytes_eq n name then content else beside n

-- what lies beside a place is moved there, if it still does
abbrev pub placed : Option (List ℕ) → (beside folder file : List ℕ) → Held → Held
placed None beside folder file h = h
placed (Some bytes) beside folder file h = record { files = with_file folder file (Some bytes) h.files; beside = with_beside beside None h.beside; list = h.list }

-- after one move, of which those of folders change no file
abbrev pub moved : Move → Held → Held
moved (MakeFolder folder) h = h
moved (TakePlace beside folder file) h = placed (h.beside beside) beside folder file h
moved (Remove folder file) h = record { files = with_file folder file None h.files; beside = h.beside; list = h.list }
moved (RemoveFolder folder) h = h

-- after one call
abbrev pub after : Call → Held → Held
after (PutBeside beside folder file bytes) h = record { files = h.files; beside = with_beside beside (Some bytes) h.beside; list = h.list }
after (DropBeside beside) h = record { files = h.files; beside = with_beside beside None h.beside; list = h.list }
after (PutList list) h = record { files = h.files; beside = h.beside; list = Some list }
after DropList h = record { files = h.files; beside = h.beside; list = None }
after (Do move) h = moved move h
after Sync h = h
after Clean h = record { files = h.files; beside = λ _. None; list = h.list }

-- after all of them, in order
abbrev pub all_after : List Call → Held → Held
all_after [] h = h
all_after (c ∷ cs) h = all_after cs (after c h)

-- what is known of a disk: what it holds, and the calls that it did
pub record Known : Type 0 where
  pub held : Held
  pub calls : List Call

abbrev pub with_done : Call → Known → Known
with_done c k = record { held = after c k.held; calls = k.calls ++ c ∷ [] }

abbrev pub all_done : List Call → Known → Known
all_done [] k = k
all_done (c ∷ cs) k = all_done cs (with_done c k)

-- a call that failed, which did what it says or not
abbrev pub Off : Call → Option Known → Option Known → Type 0
Off c old new = (new ≡ old) ⊎ (new ≡ option_map (with_done c) old)

-- bytes that failed to be put beside a place, of which any may lie there under some name
abbrev pub PutOff : (folder file : List ℕ) → Option Known → Option Known → Type 0
PutOff folder file old new = (new ≡ old) ⊎ ((name part : List ℕ) × (new ≡ option_map (with_done (PutBeside name folder file part)) old))

-- of all these calls those before the rest were done
pub record Doing (all rest : List Call) (old now : Option Known) : Type 0 where
  pub did : List Call
  pub are : all ≡ did ++ rest
  pub done : now ≡ option_map (all_done did) old

-- all of these calls were done where it succeeded, else a front of them
abbrev pub DoesAll : {A : Type 0} → List Call → Result A StoreFault → Option Known → Option Known → Type 0
DoesAll all (Ok a) old new = Doing all [] old new
DoesAll all (Err e) old new = (rest : List Call) × Doing all rest old new
