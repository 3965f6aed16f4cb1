-- The tokens of a text.
use Rattle.std.specs.Prelude.{ℕ, zero, suc, ◌+◌, ◌-◌, Bool, true, false, ◌==◌, ◌&&◌, List, [], ◌∷◌, Option, Some, None, Result, Ok, Err, IfOk, OnErr, slice_get, drop, ◌≡◌, ◌≤◌, if◌then◌else◌}
use Rattle.std.specs.Char.{is_ascii_digit}
use Rattle.ss_lexer.specs.declared.token.Kind.{Kind}
use Rattle.ss_lexer.specs.declared.token.Kind.TheVariants as kind
use Rattle.ss_lexer.specs.declared.token.Token.{Token}
use Rattle.ss_lexer.specs.declared.token.TokenFault.{TokenFault}
use Rattle.ss_lexer.specs.declared.token.TokenFault.TheVariants as fault
use Rattle.ss_lexer.specs.Spelling.{is_blank, is_letter, first_passes, word_len, quote_len, digits_len, sign_len}

-- what stands at a place: a token, or the fault of the text
abbrev pub Answer : Type 0
Answer = Result Token TokenFault

-- a token of a kind, by its place and its length
abbrev pub token : ℕ → Kind → ℕ → Answer
token at k len = Ok (record { kind = k; from = at; to = at + len })

-- a quotation, by the bytes behind its opening quote; where it doesn't close, the fault stands at that quote
abbrev pub quotation : ℕ → Kind → Option ℕ → Answer
quotation at k None = Err (fault.OpenQuote at)
quotation at k (Some len) = token at k (1 + len)

-- a sign, if there is one
abbrev pub sign : ℕ → ℕ → Answer
sign at len = if len == 0 then Err (fault.BadByte at) else token at kind.Sign len

-- what begins with these bytes, which are not blank and stand at this place; no digit begins a token directly behind a number
unfoldable pub answer : Bool → ℕ → List ℕ → Answer
answer behind_number at [] = token at kind.Finish 0
answer behind_number at (b ∷ bs) =
    if is_letter b then token at kind.Word (word_len (b ∷ bs)) else
    if b == 34 then quotation at kind.Quoted (quote_len 34 bs) else
    if b == 39 then quotation at kind.Str (quote_len 39 bs) else
    if is_ascii_digit b then (if behind_number then Err (fault.BadByte at) else token at kind.Num (digits_len (b ∷ bs))) else
    if (b == 45) && first_passes is_ascii_digit bs then token at kind.Num (1 + digits_len bs) else
    sign at (sign_len (b ∷ bs))

abbrev pub is_num : Kind → Bool
is_num kind.Num = true
is_num k = false

abbrev pub is_number : Answer → Bool
is_number (Ok t) = is_num t.kind
is_number (Err e) = false

-- how many bytes a token takes behind its first
abbrev pub further : Answer → ℕ
further (Ok t) = t.to - t.from - 1
further (Err e) = 0

-- a fault ends the tokens
abbrev pub followed : Answer → List Answer → List Answer
followed (Ok t) rest = Ok t ∷ rest
followed (Err e) rest = Err e ∷ []

-- the tokens of these bytes, which stand at a place, but for the first of them, so many, that belong to the token before
abbrev pub tokens_from : Bool → ℕ → ℕ → List ℕ → List Answer
tokens_from behind_number passed at [] = answer behind_number at [] ∷ []
tokens_from behind_number (suc passed) at (b ∷ bs) = tokens_from behind_number passed (suc at) bs
tokens_from behind_number zero at (b ∷ bs) =
    let found = answer behind_number at (b ∷ bs) in
    if is_blank b then tokens_from false zero (suc at) bs else followed found (tokens_from (is_number found) (further found) (suc at) bs)

-- the tokens of a text, up to its end or to its first fault
unfoldable pub tokens : List ℕ → List Answer
tokens bytes = tokens_from false zero 0 bytes

-- what is left behind the first; the last stays
abbrev pub behind_first : List Answer → List Answer
behind_first [] = []
behind_first (a ∷ []) = a ∷ []
behind_first (a ∷ b ∷ bs) = b ∷ bs

-- an answer is the first of the tokens, and those behind it stand where it ends
pub record IsFirst (behind : Bool) (at : ℕ) (xs : List ℕ) (a : Answer) : Type 0 where
  pub first : slice_get (tokens_from behind 0 at xs) 0 ≡ Some a
  pub left : IfOk a (λ t. behind_first (tokens_from behind 0 at xs) ≡ tokens_from (is_num t.kind) 0 t.to (drop (t.to - at) xs))
  pub stays : OnErr a (behind_first (tokens_from behind 0 at xs) ≡ tokens_from behind 0 at xs)
  pub ahead : IfOk a (λ t. at ≤ t.to)
