-- The levels of a stack, as their contracts see them.
use Rattle.std.specs.Prelude.{◌≡◌, ℕ, List, [], ◌∷◌, map, None, ⊤}
use Rattle.ss_text.specs.Texts.{Text, Row}
use Rattle.schema_model.specs.Catalogue.{CatalogueValue}
use Rattle.schema_model.specs.declared.change.Change.{Change}
use Rattle.view_def.specs.Query.{Query}
use Rattle.flow_law.specs.Tables.{TablesValue, labels_of}
use Rattle.view_meaning.specs.Meaning.{meaning}
use Rattle.apply_law.specs.Standing.{Standing, Waiting}
use Rattle.apply_law.specs.Verdicts.{Makes}
use Rattle.view_session.specs.Named.{Names, no_names}
use Rattle.view_session.specs.Session.{SessionState, cleared, proposing, accepted, tables_of}
use Rattle.view_session.specs.Verdicts.{standing_of, waiting_of, verdict_of}
use Rattle.view_stack.specs.Stacks.{IsStack}
use Rattle.view_stack.specs.Told.{Cause, Passes, HasIllegal, HasClash}
use Rattle.ss_print.specs.Fields.{illegal_fields, clash_fields}
use Rattle.view_stages.specs.Stages.{refusal_of}
use Rattle.view_stack.specs.Stands.{given_by}
use Rattle.stack_levels.specs.Levels.{refused_at, limit_fields}
use Rattle.stack_levels.specs.Values.{LevelValue}
use Rattle.stack_levels.specs.declared.refusal.LevelRefusal.{LevelRefusal}

-- a level: the view over its catalogue, and the labels of its tables at the last sync
pub record LevelState : Type 0 where
  pub session : SessionState
  pub synced : List Text

-- to those who see no view
abbrev pub level_standing : LevelState → Standing
level_standing l = standing_of l.session

abbrev pub level_waiting : LevelState → Waiting
level_waiting l = waiting_of l.session

abbrev pub level_proposing : LevelState → List Change → LevelState
level_proposing l gs = record { session = proposing l.session gs; synced = l.synced }

abbrev pub level_accepted : LevelState → LevelState
level_accepted l = record { session = accepted l.session; synced = l.synced }

abbrev pub level_value : LevelState → LevelValue
level_value l = record { query = l.session.query; named = l.session.changed.labels; synced = l.synced }

-- its tables and their labels, and the level where its files were just synced
abbrev pub level_tables : LevelState → TablesValue
level_tables l = tables_of l.session

abbrev pub level_labels : LevelState → List Text
level_labels l = labels_of (level_tables l)

unfoldable pub level_synced : LevelState → LevelState
level_synced l = record { session = cleared l.session; synced = level_labels l }

-- the catalogue of the lowest, and what was named of it
abbrev pub lowest_catalogue : List LevelState → CatalogueValue
lowest_catalogue [] = []
lowest_catalogue (l ∷ ls) = l.session.catalogue

abbrev pub lowest_names : List LevelState → Names
lowest_names [] = no_names
lowest_names (l ∷ ls) = l.session.changed

-- the view databases of levels, and their views
abbrev pub databases_of : List LevelState → List Text
databases_of ls = map (λ (l : LevelState). l.session.query.view_db) ls

abbrev pub views_of : List LevelState → List Query
views_of ls = map (λ (l : LevelState). l.session.query) ls

-- the tables of each level are those of its view over the catalogue that the one below gives, the lowest being over this one
abbrev pub IsKept : List LevelState → CatalogueValue → Type 0
IsKept [] c = ⊤
IsKept (l ∷ ls) c =
    (verdict_of l.session.query l.session.catalogue ≡ Makes (meaning c l.session.query)) × (refusal_of c l.session.query ≡ None) × IsKept ls (given_by c l.session.query)

-- levels stand over one another with nothing waiting in them, and their tables are kept over the catalogue of the lowest
pub record AreLevels (ls : List LevelState) : Type 0 where
  pub stack : IsStack (map level_standing ls) (map level_waiting ls) (databases_of ls)
  pub kept : IsKept ls (lowest_catalogue ls)

-- a cause of a refusal, by its fields
abbrev pub cause_fields : Cause → Row
cause_fields (Passes which) = limit_fields which
cause_fields (HasIllegal label) = illegal_fields label
cause_fields (HasClash clash) = clash_fields clash

abbrev pub told_as : ℕ × Cause → LevelRefusal
told_as x = refused_at x.0 (cause_fields x.1)
