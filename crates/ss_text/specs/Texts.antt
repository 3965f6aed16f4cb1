-- Texts and rows, and their order.
use Rattle.std.specs.Prelude.{ℕ, Bool, List, bytes_eq}
use Rattle.std.specs.declared.cmp.Ordering.{Ordering}
use Rattle.std.specs.Ordering.{nat_cmp}
use Rattle.std.specs.Cmp.Lexicographic.{slice_cmp}
use Rattle.std.specs.List.{list_any}
use lib.Pointwise.{pointwise}

-- a text is a list of bytes
abbrev pub Text : Type 0
Text = List ℕ

-- a row is a list of texts
abbrev pub Row : Type 0
Row = List Text

-- byte by byte, a prefix being less
abbrev pub text_cmp : Text → Text → Ordering
text_cmp = slice_cmp nat_cmp

-- text by text, a prefix being less
abbrev pub row_cmp : Row → Row → Ordering
row_cmp = slice_cmp text_cmp

-- whether two texts are the same
abbrev pub text_eq : Text → Text → Bool
text_eq = bytes_eq

-- whether two rows are the same
abbrev pub row_eq : Row → Row → Bool
row_eq = pointwise text_eq

-- whether a text is one of these
abbrev pub is_in : Text → List Text → Bool
is_in t ts = list_any (text_eq t) ts
