-- What is known of a store that is read, and of relations that were read and are not in a catalogue yet.
use Rattle.std.specs.Prelude.{◌≡◌, ℕ, true, Some, ◌+◌, ◌≤◌, List, [], ◌∷◌, length, map, sum_by}
use Rattle.ss_text.specs.Texts.{Text}
use Rattle.ss_text.specs.Label.{is_table_label}
use Rattle.outside.specs.States.{StoreState}
use Rattle.outside.specs.Tree.{Tree}
use Rattle.schema_model.specs.Catalogue.{RelationValue}
use Rattle.schema_model.specs.Sound.{AreNames}
use Rattle.ss_text.specs.Ascending.{with_element}
use Rattle.csv_catalog.specs.Loaded.{label_of, by_name}
use Rattle.schema_model.specs.Limits.{most_rows}

-- what holds of its folders and files, where it tells them
abbrev pub WhereTold : StoreState → (Tree → Type 0) → Type 0
WhereTold s P = (t : Tree) → s.tree ≡ Some t → P t

-- the names of relations, and the number of their rows
abbrev pub names_of : List RelationValue → List Text
names_of rs = map (λ (r : RelationValue). r.name) rs

abbrev pub rows_counted : List RelationValue → ℕ
rows_counted rs = sum_by (λ (r : RelationValue). length r.rows) rs

-- names in order, and with the rows before no more rows than were counted
pub record AreKept (before : ℕ) (rs : List RelationValue) (counted : ℕ) : Type 0 where
  pub names : AreNames (names_of rs)
  pub rows : before + rows_counted rs ≤ counted

-- these relations too, each at the place of its name
unfoldable pub all_placed : List RelationValue → List RelationValue → List RelationValue
all_placed [] kept = kept
all_placed (r ∷ rs) kept = all_placed rs (with_element by_name r kept)

-- a relation that may be kept, where so many rows were counted before
pub record MayBeKept (r : RelationValue) (count : ℕ) : Type 0 where
  pub legal : is_table_label r.name ≡ true
  pub room : count + length r.rows ≤ most_rows

-- a relation's file, and the relation's name
pub record IsLabelled (file label : Text) : Type 0 where
  pub is : label ≡ label_of file
  pub legal : is_table_label label ≡ true
