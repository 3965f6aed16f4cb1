-- What a stack of sessions tells is what is said of their views.
use Rattle.std.specs.Prelude.{◌≡◌, List, None, map, option_map}
use Rattle.schema_model.specs.Catalogue.{CatalogueValue}
use Rattle.view_stack.specs.Told as stack
use Rattle.stack_levels.specs.Levels.{lines_over, changing_refusal}
use Rattle.stack_levels.specs.States.{LevelState, level_standing, databases_of, views_of, IsKept, told_as}

-- where the tables of levels are those of their views, the lowest being over the catalogue c: which level refuses the catalogue d and why, the lines of each where none does, and that the tables are then those over d
pub record TellsOfViews (ls : List LevelState) (c d : CatalogueValue) : Type 0 where
  pub refusal : option_map told_as (stack.first_refusal (map level_standing ls) (databases_of ls) d) ≡ changing_refusal c d (views_of ls)
  pub lines : changing_refusal c d (views_of ls) ≡ None → stack.lines_over (map level_standing ls) (databases_of ls) d ≡ lines_over c d (views_of ls)

abbrev pub StacksTell : Type 0
StacksTell = (ls : List LevelState) (c d : CatalogueValue) → IsKept ls c → TellsOfViews ls c d

-- and levels that come to be over d, where none refuses it, have the tables over d
abbrev pub StacksKeep : Type 0
StacksKeep = (ls : List LevelState) (c d : CatalogueValue) → stack.IsOver (map level_standing ls) (databases_of ls) d → changing_refusal c d (views_of ls) ≡ None → IsKept ls d
