-- An opened stack.
use Rattle.std.specs.Prelude.{Bool, false, ℕ, List, [], map, Option, None, unwrap_or}
use Rattle.ss_text.specs.Texts.{Text}
use Rattle.schema_model.specs.Catalogue.{CatalogueValue}
use Rattle.schema_model.specs.Changes.{after_all}
use Rattle.schema_model.specs.declared.change.Change.{Change}
use Rattle.schema_model.specs.declared.pair.Pair.{Pair}
use Rattle.view_def.specs.Query.{Query}
use Rattle.flow_law.specs.Tables.{TablesValue}
use Rattle.view_session.specs.Named.{Names, with_changes}
use Rattle.stack_levels.specs.Levels.{tables_over}
use Rattle.stack_levels.specs.Values.{LevelValue, synced_over}

-- the catalogue of the sources, the relations and databases of it that changes named since the last sync, the levels over it, the lowest first, the changes that the open group holds, where one is open, whether some line was refused, and how many were refused in the open group
pub record StackState : Type 0 where
  pub catalogue : CatalogueValue
  pub relations : List Pair
  pub databases : List Text
  pub levels : List LevelValue
  pub held : Option (List Change)
  pub refused : Bool
  pub broken : ℕ

abbrev pub queries_of : StackState → List Query
queries_of s = map (λ (l : LevelValue). l.query) s.levels

-- the tables of each level
abbrev pub stack_tables : StackState → List TablesValue
stack_tables s = tables_over s.catalogue (queries_of s)

-- the catalogue after the changes that the open group holds; the stack's own where none is open
abbrev pub working : StackState → CatalogueValue
working s = after_all s.catalogue (unwrap_or s.held [])

-- what was named of the sources, with changes
abbrev pub names_with : StackState → List Change → Names
names_with s gs = with_changes (record { labels = []; relations = s.relations; databases = s.databases }) s.catalogue gs

-- a stack that was just opened
abbrev pub stack_at_first : List Query → CatalogueValue → StackState
stack_at_first qs c = record { catalogue = c; relations = []; databases = []; levels = synced_over c qs; held = None; refused = false; broken = 0 }
