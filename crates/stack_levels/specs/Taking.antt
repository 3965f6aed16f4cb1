-- How levels take changes, or refuse them.
use Rattle.std.specs.Prelude.{◌≡◌, ◌<◌, ◌⊎◌, ℕ, List, [], map, None, Some, ⊤}
use Rattle.schema_model.specs.Catalogue.{CatalogueValue}
use Rattle.schema_model.specs.Changes.{after_all}
use Rattle.schema_model.specs.Refusals.{group_fault}
use Rattle.schema_model.specs.declared.change.Change.{Change}
use Rattle.schema_model.specs.declared.refusal.Refusal.{Refusal}
use Rattle.schema_model.specs.declared.refusal.Refusal.TheVariants.{Limit}
use Rattle.view_def.specs.Query.{Query}
use Rattle.flow_law.specs.declared.line.TableLine.{TableLine}
use Rattle.apply_law.specs.Verdicts.{first_fault}
use Rattle.apply_law.specs.declared.refused.GroupRefused.{GroupRefused}
use Rattle.apply_law.specs.declared.refused.GroupRefused.TheVariants as group
use Rattle.ss_print.specs.Fields.{illegal_fields, clash_fields}
use Rattle.view_session.specs.Named.{Names, with_changes, with_labels}
use Rattle.stack_levels.specs.Levels.{refused_at, limit_fields, lines_over, changing_refusal}
use Rattle.stack_levels.specs.Values.{with_lines}
use Rattle.stack_levels.specs.States.{LevelState, level_value, lowest_catalogue, lowest_names, databases_of, views_of, AreLevels}
use Rattle.stack_levels.specs.declared.refusal.LevelRefusal.{LevelRefusal}
use Rattle.stack_levels.specs.declared.refusal.LevelsRefused.{LevelsRefused}
use Rattle.stack_levels.specs.declared.refusal.LevelsRefused.TheVariants as refused

-- what was named of the sources, with changes of them
abbrev pub sources_named : Names → CatalogueValue → List Change → Names
sources_named n c gs = with_changes (with_labels [] n) c gs

-- levels after changes that come to these lines
pub record HaveTaken (old new : List LevelState) (gs : List Change) (all : List (List TableLine)) : Type 0 where
  pub catalogue : lowest_catalogue new ≡ after_all (lowest_catalogue old) gs
  pub relations : (lowest_names new).relations ≡ (sources_named (lowest_names old) (lowest_catalogue old) gs).relations
  pub databases : (lowest_names new).databases ≡ (sources_named (lowest_names old) (lowest_catalogue old) gs).databases
  pub values : map level_value new ≡ with_lines (map level_value old) all

-- what is then said of the levels: of their views, and that they stand over one another under the same names
pub record HaveApplied (old new : List LevelState) (gs : List Change) (all : List (List TableLine)) : Type 0 where
  pub lines : all ≡ lines_over (lowest_catalogue old) (after_all (lowest_catalogue old) gs) (views_of old)
  pub accepted : group_fault (lowest_catalogue old) gs ≡ None
  pub unrefused : changing_refusal (lowest_catalogue old) (after_all (lowest_catalogue old) gs) (views_of old) ≡ None
  pub taken : HaveTaken old new gs all
  pub levels : AreLevels new
  pub names : databases_of new ≡ databases_of old

-- a catalogue refuses this change of several, the first being at place 0
abbrev pub IsAtFault : CatalogueValue → List Change → ℕ → Refusal → Type 0
IsAtFault c gs place r = (first_fault c gs ≡ Some (place, r)) × (group_fault c gs ≡ Some r)

-- it refuses none, but this is the first refusal of the views over it once they are made
abbrev pub IsFirst : CatalogueValue → List Query → List Change → LevelRefusal → Type 0
IsFirst c qs gs r = (group_fault c gs ≡ None) × (changing_refusal c (after_all c gs) qs ≡ Some r)

-- views over a catalogue refuse changes of it: it refuses one of them, or else a view is refused, or there was no memory
abbrev pub AreRefused : CatalogueValue → List Query → List Change → LevelsRefused → Type 0
AreRefused c qs gs (refused.Change place r) = IsAtFault c gs place r
AreRefused c qs gs (refused.Level r) = IsFirst c qs gs r
AreRefused c qs gs refused.NoMemory = ⊤

-- a level above the lowest refuses a change of its own for a limit alone
abbrev pub IsPassed : CatalogueValue → List Query → List Change → ℕ → Refusal → Type 0
IsPassed c qs gs level (Limit which) = IsFirst c qs gs (refused_at level (limit_fields which))
IsPassed c qs gs level r = ⊥

-- what the stack of these views tells, where the level of this number refuses
abbrev pub IsToldOf : CatalogueValue → List Query → List Change → ℕ → GroupRefused → Type 0
IsToldOf c qs gs level (group.Change place r) = ((level ≡ 1) × IsAtFault c gs place r) ⊎ ((1 < level) × IsPassed c qs gs level r)
IsToldOf c qs gs level (group.Illegal label) = IsFirst c qs gs (refused_at level (illegal_fields label))
IsToldOf c qs gs level (group.Conflict clash) = IsFirst c qs gs (refused_at level (clash_fields clash))
IsToldOf c qs gs level group.NoMemory = ⊤
