-- The grammar of names and terms.
use Rattle.std.specs.Prelude.{Bool, true, false, List, Option, Some, None, if◌then◌else◌, codes}
use Rattle.ss_text.specs.Texts.{Text, text_eq}
use Rattle.view_def.specs.declared.written.Name.{Name}
use Rattle.view_def.specs.declared.written.RawTerm.{RawTerm}
use Rattle.view_def.specs.declared.written.RawTerm.TheVariants as term
use Rattle.ss_lexer.specs.Lexemes.{Lexeme, Ident, Key, Quoted, Literal, Mark, Piece}
use Rattle.ss_parser.specs.Phrases.{Phrase, token, gives, ◌>>=◌, by_next, listed}

-- a piece that says one of these
abbrev pub one : {A : Type 0} → (Lexeme → Option A) → Phrase Piece A
one f = token (λ p. f p.says)

-- a piece that passes
abbrev pub just : (Piece → Bool) → Phrase Piece (Unit {0})
just test = token (λ p. if test p then Some tt else None)

abbrev pub says_key : Text → Lexeme → Bool
says_key k (Key j) = text_eq j k
says_key k l = false

abbrev pub says_sign : Text → Lexeme → Bool
says_sign s (Mark m) = text_eq m s
says_sign s l = false

abbrev pub is_key : Text → Piece → Bool
is_key k p = says_key k p.says

abbrev pub is_sign : Text → Piece → Bool
is_sign s p = says_sign s p.says

abbrev pub key : Text → Phrase Piece (Unit {0})
key k = just (is_key k)

abbrev pub sign : Text → Phrase Piece (Unit {0})
sign s = just (is_sign s)

-- ident
abbrev pub an_ident : Lexeme → Option Text
an_ident (Ident t) = Some t
an_ident l = None

abbrev pub ident : Phrase Piece Text
ident = one an_ident

-- name = ident | Quoted
abbrev pub a_name : Lexeme → Option Name
a_name (Ident t) = Some (record { text = t; quoted = false })
a_name (Quoted t) = Some (record { text = t; quoted = true })
a_name l = None

abbrev pub name : Phrase Piece Name
name = one a_name

-- phrases between commas
abbrev pub some : {A : Type 0} → Phrase Piece A → Phrase Piece (List A)
some p = listed (is_sign (codes ",")) p

-- Str | Num
abbrev pub a_literal : Lexeme → Option RawTerm
a_literal (Literal t) = Some (term.Literal t)
a_literal l = None

abbrev pub literal : Phrase Piece RawTerm
literal = one a_literal

-- "." name
abbrev pub dotted : Text → Phrase Piece RawTerm
dotted x = do
  _ ← sign (codes ".")
  a ← name
  gives (term.Dot x a)

-- ident | ident "." name
abbrev pub ident_term : Phrase Piece RawTerm
ident_term = do
  x ← ident
  by_next (is_sign (codes ".")) (dotted x) (gives (term.Lone x))

abbrev pub says_ident : Lexeme → Bool
says_ident (Ident t) = true
says_ident l = false

abbrev pub is_ident : Piece → Bool
is_ident p = says_ident p.says

-- term = ident | ident "." name | Str | Num
abbrev pub a_term : Phrase Piece RawTerm
a_term = by_next is_ident ident_term literal
