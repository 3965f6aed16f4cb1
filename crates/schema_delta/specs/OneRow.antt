-- Changes of rows alone, and what they move.
use Rattle.std.specs.Prelude.{◌≡◌, Bool, true, false, cond, List, [], ◌∷◌, Option, option_map}
use Rattle.ss_text.specs.Texts.{Text, Row}
use Rattle.view_def.specs.declared.typed.Range.{Range}
use Rattle.view_def.specs.declared.typed.Range.TheVariants as range
use Rattle.schema_model.specs.Catalogue.{RelationValue, CatalogueValue, relation_value, relation_of}
use Rattle.schema_model.specs.declared.change.Change.{Change}
use Rattle.schema_model.specs.declared.change.Change.TheVariants.{Insert, Delete}
use Rattle.schema_delta.specs.declared.spec.FlatSpec.{FlatSpec}
use Rattle.schema_delta.specs.Flat.{part}

abbrev pub is_of_rows : Change → Bool
is_of_rows (Insert db rel row) = true
is_of_rows (Delete db rel row) = true
is_of_rows g = false

-- the attributes of a relation, if there is one
abbrev pub header_of : CatalogueValue → Text → Text → Option Row
header_of c db rel = option_map (λ (r : RelationValue). r.attributes) (relation_of c db rel)

-- two catalogues have the same relations, with the same attributes
abbrev pub SameHeaders : CatalogueValue → CatalogueValue → Type 0
SameHeaders c e = (db rel : Text) → header_of c db rel ≡ header_of e db rel

-- whether a range goes over rows
abbrev pub is_over_rows : Range → Bool
is_over_rows (range.Tuples p q) = true
is_over_rows (range.Values p q a) = true
is_over_rows r = false

-- what one row contributes in a relation of these names and attributes
abbrev pub row_part : FlatSpec → Text → Text → Row → Row → List Row
row_part s db rel attributes row = cond (is_over_rows s.range) (part s db (relation_value rel attributes (row ∷ []))) []
