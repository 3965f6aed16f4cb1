-- Catalogues that differ in the order of rows and of attributes alone.
use Rattle.std.specs.Prelude.{◌≡◌, ℕ, List, [], ◌∷◌, map, sum_by}
use Rattle.std.specs.Bool.{⊤}
use Rattle.ss_text.specs.Texts.{Text, Row}
use Rattle.schema_model.specs.Catalogue.{RelationValue, DatabaseValue, CatalogueValue}
use Rattle.view_meaning.specs.Elements.{cell_under}
use Rattle.view_meaning.specs.Meaning.{given}

-- the text of a row under a name, empty where no attribute has it
abbrev pub text_under : Row → Row → Text → Text
text_under attributes row name = given (cell_under attributes name row)

-- a row under these names
abbrev pub row_under : Row → Row → Row → Row
row_under names attributes row = map (text_under attributes row) names

abbrev pub rows_under : Row → RelationValue → List Row
rows_under names r = map (row_under names r.attributes) r.rows

-- both have the same name and the same attributes, and under whatever names they have the same rows, each as often: no weight tells them apart
pub record SameRelation (r s : RelationValue) : Type 0 where
  pub name : r.name ≡ s.name
  pub attributes : (f : Text → ℕ) → sum_by f r.attributes ≡ sum_by f s.attributes
  pub rows : (names : Row) (f : Row → ℕ) → sum_by f (rows_under names r) ≡ sum_by f (rows_under names s)

abbrev pub SameRelations : List RelationValue → List RelationValue → Type 0
SameRelations [] [] = ⊤
SameRelations [] (s ∷ ss) = ⊥
SameRelations (r ∷ rs) [] = ⊥
SameRelations (r ∷ rs) (s ∷ ss) = SameRelation r s × SameRelations rs ss

pub record SameDatabase (d e : DatabaseValue) : Type 0 where
  pub name : d.name ≡ e.name
  pub relations : SameRelations d.relations e.relations

-- the databases and their relations have the same names in the same order, and each relation is the other's
abbrev pub DifferInOrder : CatalogueValue → CatalogueValue → Type 0
DifferInOrder [] [] = ⊤
DifferInOrder [] (e ∷ es) = ⊥
DifferInOrder (d ∷ ds) [] = ⊥
DifferInOrder (d ∷ ds) (e ∷ es) = SameDatabase d e × DifferInOrder ds es
