-- What an opened stack keeps, and what contracts see of it.
use Rattle.std.specs.Prelude.{Bool, ℕ, List, map, Option, option_map, IfSome}
use Rattle.schema_model.specs.declared.change.Change.{Change}
use Rattle.change_draft.specs.Drafts.{DraftState, StandsOver}
use Rattle.stack_levels.specs.States.{LevelState, AreLevels, level_value, lowest_catalogue, lowest_names}
use Rattle.stack_answers.specs.Stack.{StackState}

abbrev pub stack_state : List LevelState → Option (List Change) → Bool → ℕ → StackState
stack_state ls held refused broken = record {
  catalogue = lowest_catalogue ls;
  relations = (lowest_names ls).relations;
  databases = (lowest_names ls).databases;
  levels = map level_value ls;
  held = held;
  refused = refused;
  broken = broken;
}

-- the changes of the draft that the open group is, where one is open
abbrev pub held_in : Option DraftState → Option (List Change)
held_in draft = option_map (λ (d : DraftState). d.changes) draft

-- the levels stand over one another, and the draft over the catalogue of the lowest
pub record IsStanding (ls : List LevelState) (waiting : Option DraftState) : Type 0 where
  pub levels : AreLevels ls
  pub draft : IfSome waiting (λ d. StandsOver d (lowest_catalogue ls))
