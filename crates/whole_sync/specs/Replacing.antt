-- What the parts of a replacement did, and what the whole of it does.
use Rattle.std.specs.Prelude.{◌≡◌, ◌⊎◌, ℕ, true, false, Bool, List, [], ◌∷◌, Option, None, Some, option_map, Result, OnOk}
use Rattle.std.specs.List.{list_all}
use Rattle.outside.specs.declared.edit.Edit.{Edit}
use Rattle.outside.specs.declared.edit.Edit.TheVariants as edit
use Rattle.outside.specs.declared.fault.StoreFault.{StoreFault}
use Rattle.whole_sync.specs.declared.moves.Move.{Move}
use Rattle.whole_sync.specs.Disks.{Held, Call, PutBeside, DropBeside, PutList, DropList, Do, Sync, Clean, after, Known, with_done, all_done, Doing, DoesAll}
use Rattle.whole_sync.specs.Listing.{Named}
use Rattle.whole_sync.specs.Lists.{IsListOf}
use Rattle.whole_sync.specs.Protocol.{puts, moves_of, finishing}

-- a call that changes no file, and puts no list
abbrev pub is_aside : Call → Bool
is_aside (PutBeside beside folder file bytes) = true
is_aside (DropBeside beside) = true
is_aside DropList = true
is_aside (PutList list) = false
is_aside (Do move) = false
is_aside Sync = false
is_aside Clean = false

-- only such calls were done
pub record Aside (old new : Option Known) : Type 0 where
  pub did : List Call
  pub aside : list_all is_aside did ≡ true
  pub done : new ≡ option_map (all_done did) old

-- there is one name for each write, under which nothing lay when it was put there
abbrev pub Free : List Edit → List (List ℕ) → Held → Type 0
Free [] [] h = Unit {0}
Free [] (n ∷ ns) h = ⊥
Free (edit.Write folder file bytes ∷ es) [] h = ⊥
Free (edit.Write folder file bytes ∷ es) (n ∷ ns) h = (h.beside n ≡ None) × Free es ns (after (PutBeside n folder file bytes) h)
Free (edit.MakeFolder folder ∷ es) ns h = Free es ns h
Free (edit.Remove folder file ∷ es) ns h = Free es ns h
Free (edit.RemoveFolder folder ∷ es) ns h = Free es ns h

-- what edits write lies beside its places
pub record PutAll (edits : List Edit) (names : List (List ℕ)) (old new : Option Known) : Type 0 where
  pub named : Named edits names
  pub free : (k : Known) → old ≡ Some k → Free edits names k.held
  pub done : new ≡ option_map (all_done (puts edits names)) old

-- and then the list is there
pub record Prepared (edits : List Edit) (moves : List Move) (names : List (List ℕ)) (old new : Option Known) : Type 0 where
  pub before : Option Known
  pub put : PutAll edits names old before
  pub moves_are : moves ≡ moves_of edits names
  pub text : List ℕ
  pub list : IsListOf moves text
  pub done : new ≡ option_map (with_done (PutList text)) before

-- the list was taken away, or it may be there, and what lies beside places is no longer named
abbrev pub TakenBack : List (List ℕ) → Option Known → Option Known → Type 0
TakenBack names old new = (new ≡ option_map (with_done DropList) old) ⊎ ((names ≡ []) × (new ≡ old))

-- where it failed before the list was there for sure
abbrev pub Unprepared : List Edit → List (List ℕ) → Option Known → Option Known → Type 0
Unprepared edits names old new = Aside old new ⊎ ((moves : List Move) × (put : List (List ℕ)) × (mid : Option Known) × Prepared edits moves put old mid × TakenBack names mid new)

-- what lies beside places is taken away where it is named
pub record Dropped (names : List (List ℕ)) (old new : Option Known) : Type 0 where
  pub aside : Aside old new
  pub none : names ≡ [] → new ≡ old

-- all edits are made: what is written lies beside its places, and the list is there, before anything of it is done
pub record Replaced (edits : List Edit) (old new : Option Known) : Type 0 where
  pub names : List (List ℕ)
  pub listed : Option Known
  pub prepared : Prepared edits (moves_of edits names) names old listed
  pub finished : Doing (finishing (moves_of edits names)) [] listed new

-- a list is there that is the text of no moves, where the disk tells it
abbrev pub HasNoMoves : Option Known → Type 0
HasNoMoves o = (k : Known) → o ≡ Some k → (text : List ℕ) × (k.held.list ≡ Some text) × ((ms : List Move) → IsListOf ms text → ⊥)

-- a list that is found is finished, and without one nothing is done
abbrev pub ListFinished : {A : Type 0} → Result A StoreFault → Option Known → Option Known → Type 0
ListFinished r old new = (k : Known) → old ≡ Some k → ((new ≡ old) × OnOk r (k.held.list ≡ None)) ⊎ ((text : List ℕ) × (ms : List Move) × (k.held.list ≡ Some text) × IsListOf ms text × DoesAll (finishing ms) r old new)
