-- What a function of the reader does with the pieces that are left.
use Rattle.std.specs.Prelude.{◌≡◌, Bool, true, false, List, [], ◌∷◌, Result, Ok, Err, ⊤}
use Rattle.ss_lexer.specs.Lexemes.{Piece}
use Rattle.ss_parser.specs.declared.fault.ParseStop.{ParseStop}
use Rattle.ss_parser.specs.declared.fault.ParseStop.TheVariants as stop
use Rattle.ss_parser.specs.Phrases.{Phrase}

-- What was answered, seen by view, is what the phrase reads, or else the reader stands where the phrase stops.
abbrev pub Parses : {X A : Type 0} → (X → A) → Phrase Piece A → List Piece → List Piece → Result X ParseStop → Type 0
Parses view p old new (Ok x) = p.reads old (view x) new
Parses view p old new (Err stop.Unexpected) = p.stops false old new
Parses view p old new (Err stop.TooDeep) = p.stops true old new
Parses view p old new (Err stop.NoMemory) = ⊤

-- The same for what goes to the end of the text, behind which nothing is left.
abbrev pub ParsesAll : {X A : Type 0} → (X → A) → Phrase Piece A → List Piece → List Piece → Result X ParseStop → Type 0
ParsesAll view p old new (Ok x) = p.reads old (view x) []
ParsesAll view p old new (Err e) = Parses view p old new (Err e)

-- The first piece passes, and the others are left.
abbrev pub Passes : (Piece → Bool) → List Piece → List Piece → Type 0
Passes test [] new = ⊥
Passes test (p ∷ ps) new = (test p ≡ true) × (ps ≡ new)
