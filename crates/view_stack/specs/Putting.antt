-- What is put into a catalogue of one database, and what it has to fit.
use Rattle.std.specs.Prelude.{◌≡◌, ℕ, ◌+◌, ◌<◌, ◌≤◌, List, [], ◌∷◌, ◌++◌, length}
use Rattle.std.specs.List.{AllByRecursion}
use Rattle.ss_text.specs.Texts.{Row}
use Rattle.ss_text.specs.Places.{at_place}
use Rattle.schema_model.specs.Catalogue.{RelationValue, DatabaseValue, CatalogueValue, relation_names, row_count, database_at, relation_at, with_rows, with_relation_at}
use Rattle.schema_model.specs.Limits.{most_relations, most_rows}
use Rattle.schema_model.specs.Sound.{AreNames, IsRelation}

-- the catalogue with these rows in the relation at a place
abbrev pub rows_put : ℕ → List Row → CatalogueValue → CatalogueValue
rows_put rel rows c = at_place 0 (with_relation_at rel (with_rows rows)) c

-- and with these relations behind its own
abbrev pub relations_put : List RelationValue → CatalogueValue → CatalogueValue
relations_put rs c = at_place 0 (λ (d : DatabaseValue). record d { relations = d.relations ++ rs }) c

-- the relation at a place can take these rows
pub record CanTakeRows (c : CatalogueValue) (rel : ℕ) (rows : List Row) : Type 0 where
  pub database : 0 < length c
  pub relation : rel < length (database_at 0 c).relations
  pub fits : AllByRecursion (λ (row : Row). length row ≡ length (relation_at rel (database_at 0 c)).attributes) rows
  pub room : row_count c + length rows ≤ most_rows

-- the database can take this relation behind its own, which gets this place
pub record CanTake (c : CatalogueValue) (rel : ℕ) (r : RelationValue) : Type 0 where
  pub database : 0 < length c
  pub place : rel ≡ length (database_at 0 c).relations
  pub names : AreNames (relation_names (database_at 0 c) ++ r.name ∷ [])
  pub few : rel < most_relations
  pub sound : IsRelation r
  pub room : row_count c + length r.rows ≤ most_rows
