-- What is there where a program was stopped, and what a recovery makes of it.
use Rattle.std.specs.Prelude.{◌≡◌, ◌⊎◌, ℕ, List, [], ◌∷◌, ◌++◌, Option, None, Some}
use Rattle.outside.specs.declared.edit.Edit.{Edit}
use Rattle.whole_sync.specs.declared.moves.Move.{Move}
use Rattle.whole_sync.specs.Disks.{Held, Call, PutBeside, Clean, after, all_after, Known}
use Rattle.whole_sync.specs.Lists.{IsListOf}
use Rattle.whole_sync.specs.Protocol.{finishing, edited}

-- a stop within a call leaves what was there, or of bytes that are put beside a place any part
abbrev pub LeavesWithin : Call → Held → Held → Type 0
LeavesWithin (PutBeside beside folder file bytes) h k = (k ≡ h) ⊎ ((part : List ℕ) × (k ≡ after (PutBeside beside folder file part) h))
LeavesWithin _ h k = k ≡ h

-- what a stop leaves at any moment of these calls: before, within or behind each of them
abbrev pub Leaves : List Call → Held → Held → Type 0
Leaves [] h k = k ≡ h
Leaves (c ∷ cs) h k = LeavesWithin c h k ⊎ Leaves cs (after c h) k

-- the files are as they were, and no list is there where none was
abbrev pub Unchanged : Option Known → Option Known → Type 0
Unchanged old new = (k n : Known) → old ≡ Some k → new ≡ Some n → k.held.list ≡ None → (n.held.list ≡ None) × (n.held.files ≡ k.held.files)

-- a recovery does what the list names that it finds, and takes away what lies beside places
abbrev pub Recovered : Held → Held → Type 0
Recovered h r = ((h.list ≡ None) × (r ≡ after Clean h)) ⊎ ((text : List ℕ) × (h.list ≡ Some text) × (ms : List Move) × IsListOf ms text × (r ≡ after Clean (all_after (finishing ms) h)))

-- wherever it was stopped, a recovery gives the files before these edits or those after them
pub record WholeAtEachStop (edits : List Edit) (old new : Known) : Type 0 where
  pub did : List Call
  pub calls : new.calls ≡ old.calls ++ did
  pub held : new.held ≡ all_after did old.held
  pub stops : (k : Held) → Leaves did old.held k → (r : Held) → Recovered k r → (r.files ≡ old.held.files) ⊎ (r.files ≡ edited edits old.held.files)

-- wherever a recovery was stopped, another one gives what it would have given
pub record SameAtEachStop (old new : Known) : Type 0 where
  pub did : List Call
  pub calls : new.calls ≡ old.calls ++ did
  pub held : new.held ≡ all_after did old.held
  pub stops : (k : Held) → Leaves did old.held k → (r s : Held) → Recovered k r → Recovered old.held s → r.files ≡ s.files
