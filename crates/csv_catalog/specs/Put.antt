-- What is put into a catalogue, and what it has to fit.
use Rattle.std.specs.Prelude.{◌≡◌, ℕ, ◌+◌, ◌<◌, ◌≤◌, List, [], ◌∷◌, ◌++◌, length}
use Rattle.std.specs.List.{AllByRecursion}
use Rattle.ss_text.specs.Texts.{Text, Row}
use Rattle.schema_model.specs.Catalogue.{RelationValue, DatabaseValue, CatalogueValue, database_names, relation_names, row_count, database_at, relation_at}
use Rattle.schema_model.specs.Sound.{AreNames}
use Rattle.csv_catalog.specs.Reading.{names_of, rows_counted}
use Rattle.schema_model.specs.Limits.{most_rows, most_databases, most_relations}

-- a database with these relations too, after all others
abbrev pub with_relations : List RelationValue → DatabaseValue → DatabaseValue
with_relations rs d = record d { relations = d.relations ++ rs }

-- a relation of the catalogue can take these rows
pub record CanTakeRows (c : CatalogueValue) (db rel : ℕ) (rows : List Row) : Type 0 where
  pub there : db < length c
  pub relation_there : rel < length (database_at db c).relations
  pub fits : AllByRecursion (λ (row : Row). length row ≡ length (relation_at rel (database_at db c)).attributes) rows
  pub room : row_count c + length rows ≤ most_rows

-- a database of the catalogue can take these relations
pub record CanTakeRelations (c : CatalogueValue) (db : ℕ) (rs : List RelationValue) : Type 0 where
  pub there : db < length c
  pub names : AreNames (relation_names (database_at db c) ++ names_of rs)
  pub few : length (database_at db c).relations + length rs ≤ most_relations
  pub room : row_count c + rows_counted rs ≤ most_rows

-- the catalogue can take a database with these relations
pub record CanTakeDatabase (c : CatalogueValue) (name : Text) (rs : List RelationValue) : Type 0 where
  pub database : AreNames (database_names c ++ name ∷ [])
  pub place : length c < most_databases
  pub names : AreNames (names_of rs)
  pub few : length rs ≤ most_relations
  pub room : row_count c + rows_counted rs ≤ most_rows
