-- The text of a list of moves.
use Rattle.std.specs.Prelude.{◌≡◌, ℕ, ◌==◌, false, List, [], ◌∷◌, ◌++◌, codes}
use Rattle.std.specs.List.{list_any, AllByRecursion}
use Rattle.whole_sync.specs.declared.moves.Move.{Move}
use Rattle.whole_sync.specs.declared.moves.Move.TheVariants.{MakeFolder, TakePlace, Remove, RemoveFolder}

-- the words of a move
abbrev pub move_words : Move → List (List ℕ)
move_words (MakeFolder folder) = codes "make" ∷ folder ∷ []
move_words (TakePlace beside folder file) = codes "write" ∷ beside ∷ folder ∷ file ∷ []
move_words (Remove folder file) = codes "remove" ∷ folder ∷ file ∷ []
move_words (RemoveFolder folder) = codes "gone" ∷ folder ∷ []

abbrev pub moves_words : List Move → List (List ℕ)
moves_words [] = []
moves_words (m ∷ ms) = move_words m ++ moves_words ms

-- the words of a list
abbrev pub list_words : List Move → List (List ℕ)
list_words ms = codes "lantsjuf list 1" ∷ moves_words ms ++ codes "end" ∷ []

-- each word ends with a 0 byte
abbrev pub joined : List (List ℕ) → List ℕ
joined [] = []
joined (w ∷ ws) = w ++ 0 ∷ joined ws

-- no byte of a word is 0
abbrev pub IsWord : List ℕ → Type 0
IsWord w = list_any (λ b. b == 0) w ≡ false

-- the text of these moves
pub record IsListOf (ms : List Move) (text : List ℕ) : Type 0 where
  pub text_is : text ≡ joined (list_words ms)
  pub words : AllByRecursion IsWord (list_words ms)
