-- The grammar of a view.
use Rattle.std.specs.Prelude.{ℕ, Bool, true, false, List, Option, Some, None, codes}
use Rattle.view_def.specs.declared.written.Name.{Name}
use Rattle.view_def.specs.declared.written.RawTerm.{RawTerm}
use Rattle.view_def.specs.declared.written.RawDecl.{RawDecl}
use Rattle.view_def.specs.RawConditions.{Raw}
use Rattle.view_def.specs.Tree.{ViewTree}
use Rattle.ss_lexer.specs.Lexemes.{Lexeme, Finish, Piece}
use Rattle.ss_parser.specs.Phrases.{Phrase, gives, ◌>>=◌, by_next}
use Rattle.ss_parser.specs.Terms.{just, key, sign, is_key, is_sign, name, some, a_term}
use Rattle.ss_parser.specs.Declarations.{decl}
use Rattle.ss_parser.specs.Conditions.{any, unit}

-- how many of NOT and "(" may be open at once
abbrev pub most_open : ℕ
most_open = 64

-- the part before SELECT
pub record Head : Type 0 where
  pub view_db : Name
  pub label : Name
  pub columns : List Name

abbrev pub head_of : Name → Name → List Name → Head
head_of db label columns = record { view_db = db; label = label; columns = columns }

-- "(" name { "," name } ")"
abbrev pub columns : Phrase Piece (List Name)
columns = do
  _ ← sign (codes "(")
  cs ← some name
  _ ← sign (codes ")")
  gives cs

-- name "::" name "(" name { "," name } ")"
abbrev pub target : Phrase Piece Head
target = do
  db ← name
  _ ← sign (codes "::")
  label ← name
  cs ← columns
  gives (head_of db label cs)

-- CREATE VIEW name "::" name "(" name { "," name } ")" AS
abbrev pub header : Phrase Piece Head
header = do
  _ ← key (codes "create")
  _ ← key (codes "view")
  h ← target
  _ ← key (codes "as")
  gives h

-- SELECT term { "," term }
abbrev pub selection : Phrase Piece (List RawTerm)
selection = do
  _ ← key (codes "select")
  some a_term

-- FROM decl { "," decl }
abbrev pub declarations : Phrase Piece (List RawDecl)
declarations = do
  _ ← key (codes "from")
  some decl

abbrev pub says_finish : Lexeme → Bool
says_finish Finish = true
says_finish l = false

abbrev pub is_finish : Piece → Bool
is_finish p = says_finish p.says

abbrev pub finish : Phrase Piece (Unit {0})
finish = just is_finish

-- ";" Finish
abbrev pub closed : Phrase Piece (Unit {0})
closed = do
  _ ← sign (codes ";")
  finish

-- [ ";" ] Finish
abbrev pub end : Phrase Piece (Unit {0})
end = by_next (is_sign (codes ";")) closed finish

-- WHERE any [ ";" ] Finish
abbrev pub filtered : ℕ → Phrase Piece (Option Raw)
filtered levels = do
  _ ← key (codes "where")
  c ← any (unit levels)
  _ ← end
  gives (Some c)

-- [ ";" ] Finish
abbrev pub unfiltered : Phrase Piece (Option Raw)
unfiltered = do
  _ ← end
  gives None

-- [ WHERE any ] [ ";" ] Finish
abbrev pub ending : ℕ → Phrase Piece (Option Raw)
ending levels = by_next (is_key (codes "where")) (filtered levels) unfiltered

abbrev pub tree_with : Head → List RawTerm → List RawDecl → Option Raw → ViewTree
tree_with h select decls c =
    record { view_db = h.view_db; label = h.label; columns = h.columns; select = select; decls = decls; condition = c }

-- a view, with at most so many of NOT and "(" open at once in its condition
abbrev pub view : ℕ → Phrase Piece ViewTree
view levels = do
  h ← header
  select ← selection
  decls ← declarations
  c ← ending levels
  gives (tree_with h select decls c)
