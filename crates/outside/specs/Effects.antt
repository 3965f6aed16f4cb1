-- What a run does to the outside, as a list, and what is there after it, whole or broken off.
use Rattle.std.specs.Prelude.{◌≡◌, ℕ, List, [], ◌∷◌, ◌++◌, take, ◌⊎◌, Option, None, Some, option_map, Result, Ok, Err}
use Rattle.outside.specs.Streams.{with_bytes}
use Rattle.outside.specs.States.{StoreState, SinkState}
use Rattle.outside.specs.Tree.{Tree, folder_path, BrokeOff}
use Rattle.outside.specs.Edits.{all_edited}
pub use Rattle.outside.specs.Stored.{Stored, stored_of, writing, removing}
use Rattle.outside.specs.declared.edit.Edit.{Edit}
use Rattle.outside.specs.declared.stop.Stop.{Stop}

-- one thing that a run does: a file is written or removed by itself, files and folders are changed by a list of edits at once, or bytes are printed
pub data Effect : Type 0 where
  Write : (folder file bytes : List ℕ) → Effect
  Remove : (folder file : List ℕ) → Effect
  Replace : (edits : List Edit) → Effect
  Print : (bytes : List ℕ) → Effect

-- what the outside holds, where it tells it
pub record Contents : Type 0 where
  pub stored : Option Stored
  pub held : Option (List ℕ)

-- the outside at a moment: its store, and the sink for its output
pub record World : Type 0 where
  pub store : StoreState
  pub output : SinkState

abbrev pub world_of : StoreState → SinkState → World
world_of store output = record { store = store; output = output }

unfoldable pub contents : World → Contents
contents w = record { stored = stored_of w.store.tree w.store.writes; held = w.output.held }

-- after one effect
abbrev pub after : Effect → Contents → Contents
after (Write folder file bytes) c = record { stored = option_map (writing folder file bytes) c.stored; held = c.held }
after (Remove folder file) c = record { stored = option_map (removing folder file) c.stored; held = c.held }
after (Replace edits) c = record { stored = option_map (all_edited edits) c.stored; held = c.held }
after (Print bytes) c = record { stored = c.stored; held = with_bytes bytes c.held }

-- after all of them, in order
abbrev pub performed : List Effect → Contents → Contents
performed [] c = c
performed (e ∷ es) c = performed es (after e c)

-- a call broke off, and left of the tree what R says
pub record Torn (R : Tree → Tree → Type 0) (old new : Option Stored) : Type 0 where
  pub untold : old ≡ None → new ≡ None
  pub told : (s : Stored) → old ≡ Some s → (u : Stored) × (new ≡ Some u) × (R s.tree u.tree) × (u.writes ≡ s.writes)

-- one effect broke off: one file may be in the middle, or a front of the bytes was printed, and no list of edits ever breaks off
abbrev pub Off : Effect → Contents → Contents → Type 0
Off (Write folder file bytes) old new = Torn (BrokeOff (folder_path folder) folder file) old.stored new.stored × (new.held ≡ old.held)
Off (Remove folder file) old new = Torn (BrokeOff [] folder file) old.stored new.stored × (new.held ≡ old.held)
Off (Replace edits) old new = ⊥
Off (Print bytes) old new = (n : ℕ) × (new ≡ record { stored = old.stored; held = with_bytes (take n bytes) old.held })

-- the effects in order, up to some place, where one may have broken off
unfoldable pub Partly : List Effect → Contents → Contents → Type 0
Partly [] old new = new ≡ old
Partly (e ∷ es) old new = (new ≡ old) ⊎ (Off e old new ⊎ Partly es (after e old) new)

-- all effects where the call succeeded, else some of them
abbrev pub Does : {A : Type 0} → List Effect → World → World → Result A Stop → Type 0
Does es old new (Ok a) = contents new ≡ performed es (contents old)
Does es old new (Err e) = Partly es (contents old) (contents new)

-- of all these effects those before the rest were done
pub record Doing (all rest : List Effect) (old now : Contents) : Type 0 where
  pub did : List Effect
  pub are : all ≡ did ++ rest
  pub done : now ≡ performed did old
