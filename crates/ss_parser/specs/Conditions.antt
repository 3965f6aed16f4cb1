-- The grammar of conditions.
use Rattle.std.specs.Prelude.{ℕ, zero, suc, Bool, true, false, ◌||◌, List, [], ◌∷◌, Option, Some, None, if◌then◌else◌, codes}
use Rattle.ss_text.specs.Texts.{Text, text_eq}
use Rattle.view_def.specs.declared.written.Op.{Op}
use Rattle.view_def.specs.declared.written.Op.TheVariants as op
use Rattle.view_def.specs.RawConditions.{Raw, AnyRaw, AllRaw, NotRaw, CompareRaw, raws}
use Rattle.ss_lexer.specs.Lexemes.{Lexeme, Ident, Literal, Mark, Piece}
use Rattle.ss_parser.specs.Phrases.{Phrase, gives, ◌>>=◌, by_next, listed, limit}
use Rattle.ss_parser.specs.Terms.{one, key, sign, is_key, is_sign, a_term}

-- op = "=" | "<>" | "<" | "<=" | ">" | ">="
abbrev pub operators : List (Text × Op)
operators = (codes "=", op.Eq) ∷ (codes "<>", op.Ne) ∷ (codes "<", op.Lt) ∷ (codes "<=", op.Le) ∷ (codes ">", op.Gt) ∷ (codes ">=", op.Ge) ∷ []

abbrev pub spelled : List (Text × Op) → Text → Option Op
spelled [] t = None
spelled (o ∷ os) t = if text_eq t o.0 then Some o.1 else spelled os t

abbrev pub an_operator : Lexeme → Option Op
an_operator (Mark t) = spelled operators t
an_operator l = None

abbrev pub operator : Phrase Piece Op
operator = one an_operator

-- term op term
abbrev pub comparison : Phrase Piece Raw
comparison = do
  s ← a_term
  o ← operator
  t ← a_term
  gives (CompareRaw s o t)

-- one member stands for itself
abbrev pub any_of : List Raw → Raw
any_of (c ∷ []) = c
any_of cs = AnyRaw (raws cs)

abbrev pub all_of : List Raw → Raw
all_of (c ∷ []) = c
all_of cs = AllRaw (raws cs)

-- all = unit { AND unit }
abbrev pub all : Phrase Piece Raw → Phrase Piece Raw
all unit = do
  cs ← listed (is_key (codes "and")) unit
  gives (all_of cs)

-- any = all { OR all }
abbrev pub any : Phrase Piece Raw → Phrase Piece Raw
any unit = do
  cs ← listed (is_key (codes "or")) (all unit)
  gives (any_of cs)

-- NOT unit
abbrev pub negation : Phrase Piece Raw → Phrase Piece Raw
negation unit = do
  _ ← key (codes "not")
  c ← unit
  gives (NotRaw c)

-- "(" any ")"
abbrev pub group : Phrase Piece Raw → Phrase Piece Raw
group unit = do
  _ ← sign (codes "(")
  c ← any unit
  _ ← sign (codes ")")
  gives c

abbrev pub starts : Lexeme → Bool
starts (Ident t) = true
starts (Literal t) = true
starts l = false

-- what begins a term
abbrev pub starts_term : Piece → Bool
starts_term p = starts p.says

-- what would be nested deeper
abbrev pub opens : Piece → Bool
opens p = is_key (codes "not") p || is_sign (codes "(") p

abbrev pub inside : Phrase Piece Raw → Phrase Piece Raw
inside unit = by_next (is_key (codes "not")) (negation unit) (group unit)

-- unit = NOT unit | "(" any ")" | term op term
abbrev pub nested : Phrase Piece Raw → Phrase Piece Raw
nested unit = by_next starts_term comparison (inside unit)

-- the same, with at most so many of NOT and "(" open at once
unfoldable pub unit : ℕ → Phrase Piece Raw
unit zero = by_next starts_term comparison (limit opens)
unit (suc levels) = nested (unit levels)
