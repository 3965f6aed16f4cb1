-- The grammar of declarations.
use Rattle.std.specs.Prelude.{Bool, true, false, codes}
use Rattle.ss_text.specs.Texts.{Text}
use Rattle.view_def.specs.declared.written.Name.{Name}
use Rattle.view_def.specs.declared.written.RawRange.{RawRange}
use Rattle.view_def.specs.declared.written.RawRange.TheVariants as range
use Rattle.view_def.specs.declared.written.RawDecl.{RawDecl}
use Rattle.ss_lexer.specs.Lexemes.{Piece}
use Rattle.ss_parser.specs.Phrases.{Phrase, gives, ◌>>=◌, by_next}
use Rattle.ss_parser.specs.Terms.{sign, is_sign, ident, name}

abbrev pub decl_of : RawRange → Text → RawDecl
decl_of r x = record { range = r; var = x }

-- ident, the variable of a declaration over a range
abbrev pub var : RawRange → Phrase Piece RawDecl
var r = do
  x ← ident
  gives (decl_of r x)

-- "->" ident
abbrev pub arrow_var : RawRange → Phrase Piece RawDecl
arrow_var r = do
  _ ← sign (codes "->")
  var r

-- "." name ident
abbrev pub column_var : Name → Name → Phrase Piece RawDecl
column_var n m = do
  _ ← sign (codes ".")
  a ← name
  var (range.Values n m a)

-- "." name ident, behind an identifier
abbrev pub cell_var : Text → Phrase Piece RawDecl
cell_var t = do
  _ ← sign (codes ".")
  a ← name
  var (range.Alias t a)

-- "->" ident | "." name ident | ident, behind a name, "::" and a name
abbrev pub in_relation : Name → Name → Phrase Piece RawDecl
in_relation n m =
    by_next (is_sign (codes "->")) (arrow_var (range.Attributes n m)) (
    by_next (is_sign (codes ".")) (column_var n m) (var (range.Tuples n m)))

-- "::" name, and what goes on it
abbrev pub in_database : Name → Phrase Piece RawDecl
in_database n = do
  _ ← sign (codes "::")
  m ← name
  in_relation n m

-- what goes on a name that "->" does not follow; a quoted one is no tuple variable
abbrev pub behind_name : Bool → Name → Phrase Piece RawDecl
behind_name true n = in_database n
behind_name false n = by_next (is_sign (codes ".")) (cell_var n.text) (in_database n)

-- a name, and what goes on it
abbrev pub named : Phrase Piece RawDecl
named = do
  n ← name
  by_next (is_sign (codes "->")) (arrow_var (range.Relations n)) (behind_name n.quoted n)

-- decl = "->" ident | name "->" ident | name "::" name "->" ident | name "::" name ident
--      | name "::" name "." name ident | ident "." name ident
abbrev pub decl : Phrase Piece RawDecl
decl = by_next (is_sign (codes "->")) (arrow_var range.Databases) named
