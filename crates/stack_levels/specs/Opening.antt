-- What an opening of views over one another gives.
use Rattle.std.specs.Prelude.{◌≡◌, ◌≤◌, ℕ, List, [], ◌∷◌, map, Option, Some, ⊤}
use Rattle.schema_model.specs.Catalogue.{CatalogueValue}
use Rattle.view_def.specs.Query.{Query, query_of}
use Rattle.flow_law.specs.Tables.{labels_of}
use Rattle.view_meaning.specs.Meaning.{meaning}
use Rattle.view_session.specs.Named.{no_names}
use Rattle.view_session.specs.Session.{opened}
use Rattle.view_stages.specs.declared.accepted.Definition.{Definition}
use Rattle.view_stack.specs.Stands.{given_by}
use Rattle.stack_levels.specs.Values.{synced_over}
use Rattle.stack_levels.specs.States.{LevelState, level_value, lowest_catalogue, lowest_names}
use Rattle.stack_levels.specs.declared.refusal.LevelRefusal.{LevelRefusal}
use Rattle.stack_levels.specs.declared.refusal.OpenFault.{OpenFault}
use Rattle.stack_levels.specs.declared.refusal.OpenFault.TheVariants as fault

-- the views of definitions
abbrev pub defined_views : List Definition → List Query
defined_views ds = map (λ (d : Definition). query_of d.view.value) ds

-- a level that was just opened over a catalogue, and levels of which each is over the catalogue that the one below gives
abbrev pub level_opened : CatalogueValue → Query → LevelState
level_opened c q = record { session = opened q c; synced = labels_of (meaning c q) }

abbrev pub levels_opened : CatalogueValue → List Query → List LevelState
levels_opened c [] = []
levels_opened c (q ∷ qs) = level_opened c q ∷ levels_opened (given_by c q) qs

-- levels of these views that were just synced, the lowest over this catalogue: nothing was named of it since
pub record AreFresh (ls : List LevelState) (c : CatalogueValue) (qs : List Query) : Type 0 where
  pub catalogue : lowest_catalogue ls ≡ c
  pub names : lowest_names ls ≡ no_names
  pub values : map level_value ls ≡ synced_over c qs

-- views are not opened, since this is the first refusal, or there was no memory
abbrev pub IsOpenFault : Option LevelRefusal → OpenFault → Type 0
IsOpenFault expected (fault.Refused r) = expected ≡ Some r
IsOpenFault expected fault.NoMemory = ⊤

-- the level that is refused is among so many, from the lowest
abbrev pub IsAmong : ℕ → OpenFault → Type 0
IsAmong n (fault.Refused r) = r.level ≤ n
IsAmong n fault.NoMemory = ⊤
