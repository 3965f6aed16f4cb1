-- The terms over the flat rows of a declaration, by what is wanted of its row.
use Rattle.std.specs.Prelude.{ℕ, [], ◌∷◌, ◌++◌, map, List, Option}
use Rattle.ss_text.specs.Texts.{Text, Row}
use Rattle.view_def.specs.declared.typed.Place.TheVariants as place
use Rattle.view_def.specs.declared.typed.Term.{Term}
use Rattle.view_def.specs.declared.typed.Term.TheVariants as term
use Rattle.view_def.specs.declared.typed.Range.{Range}
use Rattle.view_def.specs.declared.typed.Range.TheVariants as range
use Rattle.view_meaning.specs.Meaning.{term_of}
use Rattle.plan_law.specs.Columns.{fold_header}

-- the cell of a tuple variable's row under an attribute
abbrev pub cell_under : ℕ → Text → Term
cell_under k a = term.Cell k (place.Fixed a)

abbrev pub header_over : Row → Option ℕ → ℕ → Range → List Term
header_over names fold k range.Databases = term.Var k ∷ []
header_over names fold k (range.Relations p) = term_of p ∷ term.Var k ∷ []
header_over names fold k (range.Attributes p r) = term_of p ∷ term_of r ∷ term.Var k ∷ []
header_over names fold k (range.Tuples p r) = (term_of p ∷ term_of r ∷ []) ++ map (cell_under k) names ++ fold_header k fold
header_over names fold k (range.Values p r a) = term_of p ∷ term_of r ∷ term_of a ∷ term.Var k ∷ []
header_over names fold k (range.Alias j a) = []
