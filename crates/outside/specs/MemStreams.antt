-- Streams in memory, as contracts see them.
use Rattle.std.specs.Prelude.{ℕ, ◌-◌, List, [], ◌∷◌, ◌++◌, take, drop}
use Rattle.outside.specs.Calls.{Calls}

-- the pieces that a source has left, the first of which may be begun, and what its last read gave
pub record SureSourceState : Type 0 where
  pub pieces : List (List ℕ)
  pub last : List ℕ

-- and its calls
pub record MemSourceState : Type 0 where
  pub pieces : List (List ℕ)
  pub last : List ℕ
  pub calls : Calls

-- what a sink holds, and how much it takes a call
pub record SureSinkState : Type 0 where
  pub held : List ℕ
  pub most : ℕ

-- and its calls
pub record MemSinkState : Type 0 where
  pub held : List ℕ
  pub most : ℕ
  pub calls : Calls

-- the pieces, one after another
abbrev pub joined : List (List ℕ) → List ℕ
joined [] = []
joined (piece ∷ pieces) = piece ++ joined pieces

-- the first piece that is not empty
abbrev pub current_piece : List (List ℕ) → List ℕ
current_piece [] = []
current_piece ([] ∷ pieces) = current_piece pieces
current_piece ((b ∷ bs) ∷ pieces) = b ∷ bs

-- what is left after n bytes of that piece
abbrev pub pieces_after : ℕ → List (List ℕ) → List (List ℕ)
pieces_after n [] = []
pieces_after n ([] ∷ pieces) = pieces_after n pieces
pieces_after n ((b ∷ bs) ∷ pieces) = drop n (b ∷ bs) ∷ pieces

-- these pieces, of which the first n bytes are used
abbrev pub begun : ℕ → List (List ℕ) → List (List ℕ)
begun n [] = []
begun n (piece ∷ pieces) = drop n piece ∷ pieces

-- the bytes of a piece from one place up to another
abbrev pub between : ℕ → ℕ → List ℕ → List ℕ
between from until piece = take (until - from) (drop from piece)
