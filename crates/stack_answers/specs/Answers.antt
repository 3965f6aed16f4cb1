-- How an opened stack answers the lines of its input: as an opened view does, but that changes are made at all levels or at none.
use Rattle.std.specs.Prelude.{Bool, true, ◌==◌, ◌+◌, ℕ, zero, suc, List, [], ◌∷◌, ◌++◌, length, Option, None, Some, is_some, option_map, unwrap_or, Result, Ok, Err, if◌then◌else◌}
use Rattle.std.specs.Option.{option_map_or}
use Rattle.ss_text.specs.Texts.{Row}
use Rattle.tab_lines.specs.Spelling.{unspell}
use Rattle.outside.specs.Effects.{Effect, Replace}
use Rattle.schema_model.specs.Changes.{after_all}
use Rattle.schema_model.specs.Refusals.{fault}
use Rattle.schema_model.specs.Reading.{change_of}
use Rattle.schema_model.specs.declared.change.Change.{Change}
use Rattle.schema_model.specs.declared.change.ChangeFault.{ChangeFault}
use Rattle.schema_model.specs.declared.change.ChangeFault.TheVariants.{FieldCount}
use Rattle.schema_model.specs.declared.refusal.Refusal.{Refusal}
use Rattle.csv_catalog.specs.Saved.{saved}
use Rattle.flow_law.specs.Tables.{TablesValue}
use Rattle.view_meaning.specs.Meaning.{shape_of}
use Rattle.view_folder.specs.Files.{view_folder}
use Rattle.view_folder.specs.Sync.{later_sync}
use Rattle.course.specs.declared.status.Verdict.TheVariants as verdict
use Rattle.course.specs.Answering.{Reply, Continues, Ending}
use Rattle.ss_print.specs.Fields.{escape_fields, first_field, line_fields, refusal_fields, group_broken_fields, open_group_fields, in_group_fields, no_group_fields}
use Rattle.ss_print.specs.Printing.{prints_begun, prints_held, prints_aborted, prints_synced}
use Rattle.opened_view.specs.declared.word.Word.{Word}
use Rattle.opened_view.specs.declared.word.Word.TheVariants as word
use Rattle.opened_view.specs.Answers.{word_in}
use Rattle.ss_print.specs.LevelLines.{refuses_at, prints_scripts}
use Rattle.stack_levels.specs.declared.refusal.LevelRefusal.{LevelRefusal}
use Rattle.stack_levels.specs.Levels.{refused_at, lines_over, changing_refusal}
use Rattle.stack_levels.specs.Values.{LevelValue, with_lines, synced_over, count_of}
use Rattle.stack_answers.specs.Stack.{StackState, queries_of, stack_tables, working, names_with}

-- an answer to a line: what is done, the changes that were made at all levels, and what the stack then is
pub record Answer : Type 0 where
  pub effects : List Effect
  pub changes : List Change
  pub stack : StackState

-- whether a group is open, and how many lines are refused in it with one more
abbrev pub in_group : StackState → Bool
in_group s = is_some s.held

abbrev pub more_broken : StackState → ℕ
more_broken s = if in_group s then suc s.broken else s.broken

-- a refusal by a level is printed, behind the number of the level where that is not the lowest
abbrev pub refusal_effects : LevelRefusal → List Effect
refusal_effects r = refuses_at r.level r.fields

-- a line is refused, and changes nothing else; and so is a group, which ends
abbrev pub refusing : StackState → LevelRefusal → Answer
refusing s r = record { effects = refusal_effects r; changes = []; stack = record s { refused = true; broken = more_broken s } }

abbrev pub giving_up : StackState → LevelRefusal → Answer
giving_up s r = record { effects = refusal_effects r; changes = []; stack = record s { held = None; refused = true; broken = 0 } }

-- what is refused before the levels are judged is refused as by the lowest
abbrev pub plainly : (StackState → LevelRefusal → Answer) → StackState → Row → Answer
plainly refuse s fields = refuse s (refused_at 1 fields)

-- a group opens, holds a change, and is given up
abbrev pub beginning : StackState → Answer
beginning s = record { effects = prints_begun ∷ []; changes = []; stack = record s { held = Some []; broken = 0 } }

abbrev pub keeping : StackState → Change → Answer
keeping s g = record { effects = prints_held ∷ []; changes = []; stack = record s { held = option_map (λ (gs : List Change). gs ++ g ∷ []) s.held } }

abbrev pub aborting : StackState → Answer
aborting s = record { effects = prints_aborted ∷ []; changes = []; stack = record s { held = None; broken = 0 } }

-- changes are made at all levels
abbrev pub making : StackState → List Change → Answer
making s gs =
    let all = lines_over s.catalogue (after_all s.catalogue gs) (queries_of s) in
    record {
      effects = prints_scripts all ∷ [];
      changes = gs;
      stack = record s {
        catalogue = after_all s.catalogue gs;
        relations = (names_with s gs).relations;
        databases = (names_with s gs).databases;
        levels = with_lines s.levels all;
        held = None;
        broken = 0;
      };
    }

-- or refused by the first that refuses them
abbrev pub by_levels : (StackState → LevelRefusal → Answer) → StackState → List Change → Option LevelRefusal → Answer
by_levels refuse s gs (Some r) = refuse s r
by_levels refuse s gs None = making s gs

abbrev pub judged : (StackState → LevelRefusal → Answer) → StackState → List Change → Answer
judged refuse s gs = by_levels refuse s gs (changing_refusal s.catalogue (after_all s.catalogue gs) (queries_of s))

-- the catalogue refuses a change, or it is held in the open group, or the levels are judged
abbrev pub by_fault : StackState → Change → Option Refusal → Answer
by_fault s g (Some r) = plainly refusing s (refusal_fields g r)
by_fault s g None = if in_group s then keeping s g else judged refusing s (g ∷ [])

-- a line says no change, or the change is judged
abbrev pub by_change : StackState → Row → Result Change ChangeFault → Answer
by_change s row (Err f) = plainly refusing s (line_fields row f)
by_change s row (Ok g) = by_fault s g (fault (working s) g)

-- a group in which lines were refused is refused, and else the levels are judged
abbrev pub by_broken : StackState → ℕ → Answer
by_broken s zero = judged giving_up s (unwrap_or s.held [])
by_broken s (suc n) = plainly giving_up s (group_broken_fields (suc n))

-- the counts of all levels' files together
abbrev pub sync_count : List LevelValue → List TablesValue → ℕ
sync_count [] all = 0
sync_count (l ∷ ls) [] = 0
sync_count (l ∷ ls) (ts ∷ all) = count_of l ts + sync_count ls all

-- the folder of each level is synced in turn
abbrev pub folder_effects : List LevelValue → List TablesValue → List Effect
folder_effects [] all = []
folder_effects (l ∷ ls) [] = []
folder_effects (l ∷ ls) (ts ∷ all) = later_sync (view_folder l.query.view_db) (shape_of l.query) ts l.named ++ folder_effects ls all

-- a sync: the sources that were named are saved, then the folders are synced, and the number of all their files is printed
abbrev pub sync_effects : StackState → List Effect
sync_effects s = Replace (saved s.catalogue s.databases s.relations) ∷ folder_effects s.levels (stack_tables s) ++ prints_synced (sync_count s.levels (stack_tables s)) ∷ []

abbrev pub synced_stack : StackState → StackState
synced_stack s = record s { relations = []; databases = []; levels = synced_over s.catalogue (queries_of s) }

abbrev pub syncing : StackState → Answer
syncing s = record { effects = sync_effects s; changes = []; stack = synced_stack s }

-- a word alone: a group does not stand in another, nor a sync in a group, and none is ended that is not open
abbrev pub by_word : StackState → Row → Word → Answer
by_word s row word.Begin = if in_group s then plainly refusing s (in_group_fields row) else beginning s
by_word s row word.Commit = if in_group s then by_broken s s.broken else plainly refusing s (no_group_fields row)
by_word s row word.Abort = if in_group s then aborting s else plainly refusing s (no_group_fields row)
by_word s row word.Sync = if in_group s then plainly refusing s (in_group_fields row) else syncing s

-- a word has no further fields
abbrev pub by_fields : StackState → Row → Word → Answer
by_fields s row w = if length row == 1 then by_word s row w else plainly refusing s (line_fields row (FieldCount (length row)))

-- a line that begins with a word, or that says a change
abbrev pub by_first : StackState → Row → Option Word → Answer
by_first s row (Some w) = by_fields s row w
by_first s row None = by_change s row (change_of row)

abbrev pub by_row : StackState → Row → Answer
by_row s row = by_first s row (word_in (first_field row))

-- a line has a backslash that spells nothing, or its row is answered
abbrev pub by_spelling : StackState → Result Row ℕ → Answer
by_spelling s (Err at) = plainly refusing s (escape_fields at)
by_spelling s (Ok row) = by_row s row

abbrev pub answer : StackState → List ℕ → Answer
answer s line = by_spelling s (unspell line)

-- each line is answered, and the run goes on
abbrev pub step : StackState → List ℕ → Reply StackState
step s line = Continues (answer s line).effects (answer s line).stack

-- at the end of the input an open group is refused
abbrev pub by_open : StackState → Option (List Change) → Option Answer
by_open s None = None
by_open s (Some gs) = Some (plainly giving_up s (open_group_fields (length gs)))

abbrev pub end_effects : StackState → List Effect
end_effects s = option_map_or (λ (a : Answer). a.effects) (by_open s s.held) []

abbrev pub end_stack : StackState → StackState
end_stack s = option_map_or (λ (a : Answer). a.stack) (by_open s s.held) s

-- and then comes one more sync
abbrev pub finish : StackState → Ending
finish s = record { effects = end_effects s ++ sync_effects (end_stack s); status = if (end_stack s).refused then verdict.SomeRefused else verdict.Done }
