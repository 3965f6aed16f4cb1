-- What the steps of an opened stack answer, against the definitions.
use Rattle.std.specs.Prelude.{◌≡◌, true, Result, Ok, Err}
use Rattle.outside.specs.Effects.{World, contents, Partly}
use Rattle.outside.specs.declared.stop.Stop.{Stop}
use Rattle.schema_model.specs.declared.change.Change.{Change}
use Rattle.course.specs.Answering.{Reply, effects_of}
use Rattle.ss_print.specs.Fields.{refusal_fields}
use Rattle.course.specs.Course.{verdict_status, is_refused_status}
use Rattle.opened_view.specs.Steps.{Begins, EndsRun}
use Rattle.stack_levels.specs.Levels.{refused_at}
use Rattle.stack_levels.specs.declared.refusal.LevelRefusal.{LevelRefusal}
use Rattle.stack_levels.specs.declared.refusal.LevelsRefused.{LevelsRefused}
use Rattle.stack_levels.specs.declared.refusal.LevelsRefused.TheVariants as refused
use Rattle.stack_answers.specs.Stack.{StackState}
use Rattle.stack_answers.specs.declared.opening.Opened.{Opened}
use Rattle.stack_answers.specs.declared.opening.Opened.TheVariants as opened_as

-- the refusal of a change: by the catalogue, which is the lowest level's, or by a level
abbrev pub IsRefusalOf : Change → LevelsRefused → LevelRefusal → Type 0
IsRefusalOf g (refused.Change place r) s = s ≡ refused_at 1 (refusal_fields g r)
IsRefusalOf g (refused.Level r) s = s ≡ r
IsRefusalOf g refused.NoMemory s = ⊥

-- changes that the catalogue does not refuse, and the level that refuses them
abbrev pub IsOfLevels : LevelsRefused → Type 0
IsOfLevels (refused.Change place r) = ⊥
IsOfLevels (refused.Level r) = Unit {0}
IsOfLevels refused.NoMemory = Unit {0}

abbrev pub IsRefusedBy : LevelsRefused → LevelRefusal → Type 0
IsRefusedBy (refused.Change place r) s = ⊥
IsRefusedBy (refused.Level r) s = s ≡ r
IsRefusedBy refused.NoMemory s = ⊥

-- a run that an opening ended was refused
abbrev pub IsRefusal : Opened → Type 0
IsRefusal (opened_as.Open s) = Unit {0}
IsRefusal (opened_as.Ended v) = is_refused_status (verdict_status v) ≡ true

-- what the opening of a stack did
abbrev pub Opens : Reply StackState → World → World → Result Opened Stop → Type 0
Opens r old new (Ok (opened_as.Open s)) = Begins r old new s
Opens r old new (Ok (opened_as.Ended v)) = EndsRun r old new v
Opens r old new (Err e) = Partly (effects_of r) (contents old) (contents new)
