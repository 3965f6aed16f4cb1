-- What a catalogue, a database and a relation are beside their plain lists: where rows stand, what was made ready, and for how much more there is room.
use Rattle.std.specs.Prelude.{ℕ, Bool, false, List, [], map, slice_index_or, Option, Some, None}
use Rattle.ss_text.specs.Texts.{Text, Row}
use Rattle.schema_model.specs.declared.change.Change.{Change}
use Rattle.schema_model.specs.Catalogue.{RelationValue, DatabaseValue, CatalogueValue, relation_value, database_value}
use Rattle.schema_model.specs.Placed.{Placed, placed_rows}

-- its rows in order, each behind its place; the rows that were made ready to be added, the first to be added first; and whether its rows are its own
pub record RelationState : Type 0 where
  pub name : Text
  pub attributes : Row
  pub placed : Placed
  pub waiting : List Row
  pub own : Bool

-- its relations, and for how many more there is room
pub record DatabaseState : Type 0 where
  pub name : Text
  pub relations : List RelationState
  pub room : ℕ

-- its databases as plain lists, and the change, or the group of changes, that it was made ready for
pub record CatalogueState : Type 0 where
  pub databases : CatalogueValue
  pub waiting : Option Change
  pub group : Option (List Change)

-- the plain lists
abbrev pub plain_relation : RelationState → RelationValue
plain_relation r = relation_value r.name r.attributes (placed_rows r.placed)

abbrev pub plain_database : DatabaseState → DatabaseValue
plain_database d = database_value d.name (map plain_relation d.relations)

abbrev pub plain_databases : List DatabaseState → CatalogueValue
plain_databases ds = map plain_database ds

-- a catalogue for which no change waits, one that was made ready for a change, and one for a group
abbrev pub settled : CatalogueValue → CatalogueState
settled c = record { databases = c; waiting = None; group = None }

abbrev pub ready_for : Change → CatalogueValue → CatalogueState
ready_for change c = record { databases = c; waiting = Some change; group = None }

abbrev pub all_ready_for : List Change → CatalogueValue → CatalogueState
all_ready_for changes c = record { databases = c; waiting = None; group = Some changes }

-- the relation and the database at a place; nothing is said of a place that is not there
abbrev pub no_relation_state : RelationState
no_relation_state = record { name = []; attributes = []; placed = []; waiting = []; own = false }

abbrev pub relation_state_at : ℕ → DatabaseState → RelationState
relation_state_at i d = slice_index_or d.relations i no_relation_state

abbrev pub database_state_at : ℕ → List DatabaseState → DatabaseState
database_state_at i ds = slice_index_or ds i (record { name = []; relations = []; room = 0 })
