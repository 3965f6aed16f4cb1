-- The database that tables are, and which catalogues stand for tables.
use Rattle.std.specs.Prelude.{[], ◌∷◌, map}
use Rattle.ss_text.specs.Texts.{Text, Row}
use Rattle.flow_law.specs.declared.shape.Shape.{Shape}
use Rattle.flow_law.specs.Tables.{TableValue, TablesValue}
use Rattle.flow_law.specs.Records.{spliced, row_records}
use Rattle.schema_model.specs.Catalogue.{RelationValue, DatabaseValue, CatalogueValue, relation_value, database_value}
use Rattle.view_def.specs.Query.{Query}
use Rattle.view_meaning.specs.Meaning.{meaning, shape_of}
use Rattle.view_meaning.specs.Orders.{DifferInOrder}

abbrev pub header : Shape → TableValue → Row
header shape t = spliced shape.spot shape.constants t.columns

-- a relation for each table, and one database of them
abbrev pub relation_for : Shape → Text × TableValue → RelationValue
relation_for shape p = relation_value p.0 (header shape p.1) (row_records shape.spot p.1.rows)

abbrev pub database_for : Text → Shape → TablesValue → DatabaseValue
database_for db shape ts = database_value db (map (relation_for shape) ts)

abbrev pub catalogue_for : Text → Shape → TablesValue → CatalogueValue
catalogue_for db shape ts = database_for db shape ts ∷ []

-- the catalogue that the tables of a view over a catalogue are, which the view gives to the one above
abbrev pub given_by : CatalogueValue → Query → CatalogueValue
given_by c q = catalogue_for q.view_db (shape_of q) (meaning c q)

-- a catalogue stands for tables: it is theirs, up to the order of attributes and rows
abbrev pub stands : Text → Shape → TablesValue → CatalogueValue → Type 0
stands db shape ts c = DifferInOrder c (catalogue_for db shape ts)
