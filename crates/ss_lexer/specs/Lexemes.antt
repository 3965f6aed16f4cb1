-- What the tokens of a text say.
use Rattle.std.specs.Prelude.{ℕ, ◌-◌, ◌==◌, ◌&&◌, List, [], ◌∷◌, length, take, drop, map, slice_range, Ok, Err, if◌then◌else◌, codes}
use Rattle.std.specs.Str.{str_to_ascii_lowercase}
use Rattle.ss_text.specs.Texts.{Text, is_in}
use Rattle.ss_lexer.specs.declared.token.Kind.{Kind}
use Rattle.ss_lexer.specs.declared.token.Kind.TheVariants as kind
use Rattle.ss_lexer.specs.declared.token.TokenFault.TheVariants as fault
use Rattle.ss_lexer.specs.Tokens.{Answer, tokens}

-- what stands at a place; the fault of a text stands there too, as a lexeme that no view has
pub data Lexeme : Type 0 where
  Ident : Text → Lexeme
  Key : Text → Lexeme
  Quoted : Text → Lexeme
  Literal : Text → Lexeme
  Mark : Text → Lexeme
  Finish : Lexeme
  Bad_byte : Lexeme
  Open_quote : Lexeme

abbrev pub keywords : List Text
keywords = codes "create" ∷ codes "view" ∷ codes "as" ∷ codes "select" ∷ codes "from" ∷ codes "where" ∷ codes "and" ∷ codes "or" ∷ codes "not" ∷ []

-- a word that spells a keyword, in any case, is that keyword
abbrev pub word : Text → Lexeme
word t = if is_in (str_to_ascii_lowercase t) keywords then Key (str_to_ascii_lowercase t) else Ident t

-- two quotes, one after the other, are one
abbrev pub undoubled : ℕ → List ℕ → List ℕ
undoubled q [] = []
undoubled q (b ∷ []) = b ∷ []
undoubled q (b ∷ c ∷ bs) = if (b == q) && (c == q) then b ∷ undoubled q bs else b ∷ undoubled q (c ∷ bs)

-- what stands between the first byte and the last
abbrev pub inner : List ℕ → List ℕ
inner bytes = take (length bytes - 2) (drop 1 bytes)

-- what a token of a kind says, by its bytes
abbrev pub lexeme_of : Kind → List ℕ → Lexeme
lexeme_of kind.Word bytes = word bytes
lexeme_of kind.Quoted bytes = Quoted (undoubled 34 (inner bytes))
lexeme_of kind.Str bytes = Literal (undoubled 39 (inner bytes))
lexeme_of kind.Num bytes = Literal bytes
lexeme_of kind.Sign bytes = Mark bytes
lexeme_of kind.Finish bytes = Finish

abbrev pub lexeme_in : List ℕ → Answer → Lexeme
lexeme_in bytes (Ok t) = lexeme_of t.kind (slice_range bytes t.from t.to)
lexeme_in bytes (Err (fault.BadByte at)) = Bad_byte
lexeme_in bytes (Err (fault.OpenQuote at)) = Open_quote

-- where an answer stands
abbrev pub place_of : Answer → ℕ
place_of (Ok t) = t.from
place_of (Err (fault.BadByte at)) = at
place_of (Err (fault.OpenQuote at)) = at

-- a lexeme, and where it stands
pub record Piece : Type 0 where
  pub says : Lexeme
  pub at : ℕ

abbrev pub piece_in : List ℕ → Answer → Piece
piece_in bytes a = record { says = lexeme_in bytes a; at = place_of a }

-- what the tokens of a text say and where, up to its end or to its first fault
abbrev pub pieces : List ℕ → List Piece
pieces bytes = map (piece_in bytes) (tokens bytes)

abbrev pub lexemes : List ℕ → List Lexeme
lexemes bytes = map (lexeme_in bytes) (tokens bytes)
