-- A reader of lines: what it takes from a source, and what it answers of it.
use Rattle.std.specs.Prelude.{◌≡◌, ◌≢◌, ◌⊎◌, ℕ, ◌+◌, ◌<◌, ◌≤◌, ◌==◌, Bool, true, false, ◌||◌, List, [], ◌∷◌, ◌++◌, length, Option, Some, Result, Ok, Err, if◌then◌else◌}
use Rattle.outside.specs.Streams.{before, CameLast}
use Rattle.tab_lines.specs.Lines.{has_feed}
use Rattle.tab_lines.specs.declared.lines.Next.{Next}
use Rattle.tab_lines.specs.declared.lines.Next.TheVariants.{Line, End}
use Rattle.tab_lines.specs.declared.lines.ReadStop.{ReadStop}
use Rattle.tab_lines.specs.declared.lines.ReadStop.TheVariants.{ReadFault, TooLong, NoMemory}

-- how many bytes were taken, which of them stand in no answered line, and whether a read answered 0
pub record LinesState : Type 0 where
  pub taken : ℕ
  pub left : List ℕ
  pub ended : Bool

-- the most bytes that are taken
abbrev pub most_taken : ℕ
most_taken = 4294967296

-- no more bytes were taken, and fewer before a read answered 0
pub record IsWithinLimit (s : LinesState) : Type 0 where
  pub taken : s.taken ≤ most_taken
  pub ended : s.ended ≡ true → s.taken < most_taken

-- whether the next answer needs no read
abbrev pub is_ready : LinesState → Bool
is_ready s = has_feed s.left || s.ended || s.taken == most_taken

-- the bytes that no answered line holds: those left, and those to come where no read answered 0
abbrev pub ahead : LinesState → List ℕ → List ℕ
ahead s rest = if s.ended then s.left else s.left ++ rest

-- no line stands whole in what was seen, and the input did not end
pub record Unfinished (seen : List ℕ) (s : LinesState) : Type 0 where
  pub left : s.left ≡ seen
  pub no_line : has_feed seen ≡ false
  pub no_end : s.ended ≡ false

-- what an answer says of the bytes seen before it, and what it leaves of them
abbrev pub Answers : Result Next ReadStop → List ℕ → LinesState → Type 0
Answers (Ok (Line line)) seen s = (has_feed line ≡ false) × ((seen ≡ line ++ 10 ∷ s.left) ⊎ ((seen ≡ line) × (line ≢ []) × (s.left ≡ []) × (s.ended ≡ true)))
Answers (Ok End) seen s = (seen ≡ []) × (s.left ≡ []) × (s.ended ≡ true)
Answers (Err ReadFault) seen s = Unfinished seen s × (s.taken < most_taken)
Answers (Err TooLong) seen s = Unfinished seen s × (s.taken ≡ most_taken)
Answers (Err NoMemory) seen s = (s.left ≡ seen) × ((s.taken < most_taken) ⊎ (has_feed seen ≡ true))

-- a read took a piece of at most 65,536 bytes; an empty one is the end. last: what the last read gave, where it is told
pub record TakesPiece (old new : LinesState) (rest later last : Option (List ℕ)) : Type 0 where
  pub piece : List ℕ
  pub moved : rest ≡ before piece later
  pub left : new.left ≡ old.left ++ piece
  pub counted : new.taken ≡ old.taken + length piece
  pub few : length piece ≤ 65536
  pub given : CameLast last piece
  pub some : new.ended ≡ false → 0 < length piece
  pub end : new.ended ≡ true → (bytes : List ℕ) → rest ≡ Some bytes → bytes ≡ []

-- behind the bytes that were left some were read: these and all of them but what the last read gave, at most 65,536 bytes, had no LF
pub record TakenByLines (left part : List ℕ) (last : Option (List ℕ)) : Type 0 where
  pub earlier : List ℕ
  pub piece : List ℕ
  pub are : part ≡ earlier ++ piece
  pub no_line : has_feed (left ++ earlier) ≡ false
  pub few : length piece ≤ 65536
  pub given : CameLast last piece

-- nothing was read, or a read was made only where no whole line stood in the bytes taken. was, last: what the last read before and that by now gave
abbrev pub IsTakenLine : List ℕ → List ℕ → Option (List ℕ) → Option (List ℕ) → Type 0
IsTakenLine left part was last = ((part ≡ []) × (last ≡ was)) ⊎ TakenByLines left part last

-- a call took a part of what the source had, and answered by what it had seen then
pub record Reads (r : Result Next ReadStop) (old new : LinesState) (rest later was last : Option (List ℕ)) : Type 0 where
  pub part : List ℕ
  pub moved : rest ≡ before part later
  pub counted : new.taken ≡ old.taken + length part
  pub soon : IsTakenLine old.left part was last
  pub ended : old.ended ≡ true → new.ended ≡ true
  pub end : old.ended ≡ false → new.ended ≡ true → (bytes : List ℕ) → later ≡ Some bytes → bytes ≡ []
  pub answers : Answers r (old.left ++ part) new

-- an answer among the lines that were ahead, and those that are ahead after it
abbrev pub IsNextOf : List (List ℕ) → List (List ℕ) → Result Next ReadStop → Type 0
IsNextOf lines later (Ok (Line line)) = lines ≡ line ∷ later
IsNextOf lines later (Ok End) = lines ≡ []
IsNextOf lines later (Err stop) = lines ≡ later
