-- What the opening of levels does with their folders: all are listed before any is written.
use Rattle.std.specs.Prelude.{◌≡◌, ◌&&◌, ◌+◌, ◌-◌, Bool, not, ℕ, List, [], ◌∷◌, ◌++◌, map, filter, length, take, Some, Option}
use Rattle.ss_text.specs.Texts.{Text}
use Rattle.outside.specs.Tree.{Tree, files_of}
use Rattle.outside.specs.Effects.{Effect}
use Rattle.flow_law.specs.Tables.{TablesValue, labels_of}
use Rattle.view_meaning.specs.Meaning.{shape_of}
use Rattle.view_folder.specs.Files.{is_csv_name, view_folder}
use Rattle.view_folder.specs.Sync.{has_table, later_sync}
use Rattle.stack_levels.specs.States.{LevelState, level_tables}
use Rattle.stack_answers.specs.declared.folders.Plan.{Plan}

-- the label whose file has this name
abbrev pub label_in : Text → Text
label_in name = take (length name - 4) name

-- whether a name ends in `.csv` and is no table's file
abbrev pub is_other : TablesValue → Text → Bool
is_other ts name = is_csv_name name && not (has_table ts (label_in name))

-- the labels whose files an opening writes or removes: those of the tables, and those of the other names that end in `.csv`
abbrev pub opening_labels : TablesValue → List Text → List Text
opening_labels ts names = labels_of ts ++ map label_in (filter (is_other ts) names)

-- those of each level
abbrev pub level_folder : LevelState → Text
level_folder l = view_folder l.session.query.view_db

abbrev pub labels_at : Tree → LevelState → List Text
labels_at t l = opening_labels (level_tables l) (files_of t (level_folder l))

abbrev pub planned_in : List Plan → List (List Text)
planned_in plans = map (λ (p : Plan). p.labels.items) plans

-- plans were put behind others, one for each level; the store told this tree
pub record ArePlanned (told : Option Tree) (ls : List LevelState) (old new : List Plan) : Type 0 where
  pub more : List Plan
  pub are : new ≡ old ++ more
  pub many : length more ≡ length ls
  pub as_told : (t : Tree) → told ≡ Some t → planned_in more ≡ map (labels_at t) ls

-- the files of these labels are synced in the folder of a level, and of each level
abbrev pub folder_synced : LevelState → List Text → List Effect
folder_synced l labels = later_sync (level_folder l) (shape_of l.session.query) (level_tables l) labels

abbrev pub folders_synced : List LevelState → List (List Text) → List Effect
folders_synced [] all = []
folders_synced (l ∷ ls) [] = []
folders_synced (l ∷ ls) (labels ∷ all) = folder_synced l labels ++ folders_synced ls all

-- how many labels there are together
abbrev pub label_count : List (List Text) → ℕ
label_count [] = 0
label_count (labels ∷ all) = length labels + label_count all
