-- The flat rows of a declaration, kind by kind.
use Rattle.std.specs.Prelude.{Bool, true, false, List, [], ◌∷◌, ◌++◌, map, filter, flat_map, zip, Option, Some, option_map, option_and_then, option_to_list}
use Rattle.ss_text.specs.Texts.{Text, Row}
use Rattle.schema_model.specs.Catalogue.{RelationValue, DatabaseValue, CatalogueValue}
use Rattle.view_meaning.specs.Elements.{cell_under}
use Rattle.plan_law.specs.Kinds.{Place, Range}
use Rattle.plan_law.specs.Kinds.range
use Rattle.schema_delta.specs.Flat.{keeps, names_of}

abbrev pub kept_databases : Place → CatalogueValue → CatalogueValue
kept_databases p c = filter (λ (d : DatabaseValue). keeps p d.name) c

abbrev pub kept_relations : Place → DatabaseValue → List RelationValue
kept_relations p d = filter (λ (r : RelationValue). keeps p r.name) d.relations

-- what the relations give that two places keep, behind the names of database and relation
abbrev pub of_relations : CatalogueValue → Place → Place → (RelationValue → List Row) → List Row
of_relations c p q rows_of =
    flat_map (λ (d : DatabaseValue). flat_map (λ (r : RelationValue). map (λ row. d.name ∷ r.name ∷ row) (rows_of r)) (kept_relations q d)) (kept_databases p c)

-- the cells of a row under wanted attributes, where all of them are there
abbrev pub cells_under : Row → Row → Row → Option Row
cells_under attributes [] row = Some []
cells_under attributes (a ∷ more) row = option_and_then (λ cell. option_map (λ cells. cell ∷ cells) (cells_under attributes more row)) (cell_under attributes a row)

-- each attribute with its cell
abbrev pub fields : RelationValue → Row → List (Text × Text)
fields r row = zip r.attributes row

-- the wanted cells alone, or with each attribute and its cell
abbrev pub per_field : Bool → List (Text × Text) → Row → List Row
per_field false fs cells = cells ∷ []
per_field true fs cells = map (λ (f : Text × Text). cells ++ f.0 ∷ f.1 ∷ []) fs

abbrev pub tuple_rows : Row → Bool → RelationValue → List Row
tuple_rows wanted folded r =
    flat_map (λ row. flat_map (per_field folded (fields r row)) (option_to_list (cells_under r.attributes wanted row))) r.rows

abbrev pub value_rows : Place → RelationValue → List Row
value_rows a r =
    flat_map (λ row. map (λ (f : Text × Text). f.0 ∷ f.1 ∷ []) (filter (λ (f : Text × Text). keeps a f.0) (fields r row))) r.rows

abbrev pub attribute_rows : RelationValue → List Row
attribute_rows r = names_of r.attributes

abbrev pub flat_of : CatalogueValue → Range → Row → Bool → List Row
flat_of c range.Databases wanted folded = map (λ (d : DatabaseValue). d.name ∷ []) c
flat_of c (range.Relations p) wanted folded = flat_map (λ (d : DatabaseValue). map (λ (r : RelationValue). d.name ∷ r.name ∷ []) d.relations) (kept_databases p c)
flat_of c (range.Attributes p q) wanted folded = of_relations c p q attribute_rows
flat_of c (range.Tuples p q) wanted folded = of_relations c p q (tuple_rows wanted folded)
flat_of c (range.Values p q a) wanted folded = of_relations c p q (value_rows a)
flat_of c (range.Alias k a) wanted folded = []
