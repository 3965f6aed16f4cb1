-- What a view text is read as, and where it is refused.
use Rattle.std.specs.Prelude.{◌≡◌, ◌≢◌, ◌⊎◌, ℕ, suc, List, [], take, slice_get, Some, Result, Ok, Err, IsTrue, ⊤}
use Rattle.view_def.specs.declared.written.ViewText.{ViewText}
use Rattle.view_def.specs.Tree.{ViewTree, tree_of}
use Rattle.ss_lexer.specs.Lexemes.{Lexeme, Bad_byte, Open_quote, Piece, pieces}
use Rattle.ss_parser.specs.declared.fault.ParseFault.{ParseFault}
use Rattle.ss_parser.specs.declared.fault.ParseFault.TheVariants as fault
use Rattle.ss_parser.specs.Conditions.{opens}
use Rattle.ss_parser.specs.Views.{view, most_open}

-- these pieces are a view with this tree, with at most so many of NOT and "(" open at once
unfoldable pub AreView : ℕ → List Piece → ViewTree → Type 0
AreView levels ps t = (view levels).reads ps t []

-- the bytes are a view text with this tree
abbrev pub IsRead : List ℕ → ViewTree → Type 0
IsRead bytes t = AreView most_open (pieces bytes) t

-- some view begins with the first k of these pieces
abbrev pub Begin : ℕ → List Piece → ℕ → Type 0
Begin levels ps k = (us : List Piece) × (t : ViewTree) × (take k us ≡ take k ps) × AreView levels us t

-- the pieces before the place k begin some view, and with the one there they begin none
pub record FirstBad (ps : List Piece) (k : ℕ) : Type 0 where
  pub before : Begin most_open ps k
  pub not_with : Begin most_open ps (suc k) → ⊥

-- the fault of a piece with which no view goes on: that of the text where it says one, or that it is not expected
abbrev pub fault_by : Lexeme → ℕ → ParseFault
fault_by Bad_byte at = fault.BadByte at
fault_by Open_quote at = fault.OpenQuote at
fault_by l at = fault.Unexpected at

abbrev pub fault_at : Piece → ParseFault
fault_at p = fault_by p.says p.at

-- a NOT or "(" is too deep, where a view that may have one more open goes on with it; another fault is that of the piece,
-- with which no view goes on, however many it may have open
abbrev pub IsFaultAt : List Piece → ℕ → Piece → ParseFault → Type 0
IsFaultAt ps k p (fault.TooDeep at) = (at ≡ p.at) × IsTrue (opens p) × Begin (suc most_open) ps (suc k)
IsFaultAt ps k p f = (f ≡ fault_at p) × ((levels : ℕ) → Begin levels ps (suc k) → ⊥)

-- the fault stands at the first piece with which these begin no view
abbrev pub IsRefusedAt : List Piece → ParseFault → Type 0
IsRefusedAt ps f = (k : ℕ) × (p : Piece) × (slice_get ps k ≡ Some p) × FirstBad ps k × IsFaultAt ps k p f

-- the earliest refusal in the text; want of memory is none
abbrev pub IsRefused : List ℕ → ParseFault → Type 0
IsRefused bytes fault.NoMemory = ⊤
IsRefused bytes f = IsRefusedAt (pieces bytes) f

-- what is answered where a view is read: its tree, or want of memory
abbrev pub IsReadAs : ViewTree → Result ViewText ParseFault → Type 0
IsReadAs t (Ok v) = tree_of v ≡ t
IsReadAs t (Err f) = f ≡ fault.NoMemory

-- the bytes are a view text, or are refused at some place
abbrev pub HasReading : List ℕ → Type 0
HasReading bytes = ((t : ViewTree) × IsRead bytes t) ⊎ ((f : ParseFault) × (f ≢ fault.NoMemory) × IsRefused bytes f)
