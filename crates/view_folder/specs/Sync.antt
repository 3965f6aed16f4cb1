-- The syncs of a view folder: what they do, and what is there after them.
use Rattle.std.specs.Prelude.{◌≡◌, ◌≢◌, ℕ, ◌+◌, Bool, true, false, ◌||◌, not, is_some, List, ◌++◌, map, filter, length, option_map}
use Rattle.std.specs.Option.{option_map_or}
use Rattle.std.specs.FinMap as map_of
use Rattle.ss_text.specs.Texts.{Text, is_in}
use Rattle.outside.specs.Tree.{Tree, Place, file_at}
use Rattle.outside.specs.declared.edit.Edit.{Edit}
use Rattle.outside.specs.declared.edit.Edit.TheVariants as edit
use Rattle.outside.specs.Effects.{Effect, Write, Remove}
use Rattle.flow_law.specs.declared.shape.Shape.{Shape}
use Rattle.flow_law.specs.Tables.{TablesValue, table_of}
use Rattle.view_folder.specs.declared.file.File.{File}
use Rattle.view_folder.specs.Files.{bytes_in, is_csv_name, other_names, file_name}
use Rattle.view_folder.specs.TableFiles.{table_text}

-- every file is written
abbrev pub written : Text → List File → List Effect
written folder files = map (λ (f : File). Write folder f.name f.bytes) files

-- every one of these is removed
abbrev pub removed : Text → List Text → List Effect
removed folder names = map (Remove folder) names

-- the files in order, and then the other names that end in `.csv`
abbrev pub opening_sync : Text → List File → List Text → List Effect
opening_sync folder files names = written folder files ++ removed folder (other_names files names)

-- how many files that writes or removes
abbrev pub opening_count : List File → List Text → ℕ
opening_count files names = length files + length (other_names files names)

-- the sync of a label: its table's file is written, or is removed where it has no table
abbrev pub label_synced : Text → Shape → TablesValue → Text → Effect
label_synced folder shape tables label = option_map_or (λ t. Write folder (file_name label) (table_text shape t)) (table_of tables label) (Remove folder (file_name label))

-- of these labels first those that have a table, and then those that have none
abbrev pub has_table : TablesValue → Text → Bool
has_table tables label = is_some (table_of tables label)

abbrev pub tables_first : TablesValue → List Text → List Text
tables_first tables labels = filter (has_table tables) labels ++ filter (λ label. not (has_table tables label)) labels

-- the later sync: that of each of these labels, one by one, and all that is written comes before all that is removed
abbrev pub later_sync : Text → Shape → TablesValue → List Text → List Effect
later_sync folder shape tables labels = map (label_synced folder shape tables) (tables_first tables labels)

-- the same as edits that are made at once
abbrev pub label_edit : Text → Shape → TablesValue → Text → Edit
label_edit folder shape tables label = option_map_or (λ t. edit.Write folder (file_name label) (table_text shape t)) (table_of tables label) (edit.Remove folder (file_name label))

abbrev pub later_edits : Text → Shape → TablesValue → List Text → List Edit
later_edits folder shape tables labels = map (label_edit folder shape tables) (tables_first tables labels)

-- whether the sync of a label writes a file, or removes one that is there
abbrev pub is_counted : Text → TablesValue → Tree → Text → Bool
is_counted folder tables t label = has_table tables label || is_some (file_at t folder (file_name label))

-- how many files the sync of distinct labels writes or removes
abbrev pub later_count : Text → TablesValue → List Text → Tree → ℕ
later_count folder tables labels t = length (filter (is_counted folder tables t) labels)

-- in the folder the files whose names end in `.csv` are exactly these
abbrev pub Holds : Text → List File → Tree → Type 0
Holds folder files t = (name : Text) → is_csv_name name ≡ true → file_at t folder name ≡ bytes_in files name

-- that, and every other file is as it was
pub record HoldsExactly (folder : Text) (files : List File) (old new : Tree) : Type 0 where
  pub tables : Holds folder files new
  pub not_csv : (name : Text) → is_csv_name name ≢ true → file_at new folder name ≡ file_at old folder name
  pub others : (p : Place) → p.0 ≢ folder → map_of.get new.files p ≡ map_of.get old.files p

-- in the folder the files of these labels are those of their tables, and every other file is as it was
pub record HoldsNamed (folder : Text) (shape : Shape) (tables : TablesValue) (labels : List Text) (old new : Tree) : Type 0 where
  pub named : (label : Text) → is_in label labels ≡ true → file_at new folder (file_name label) ≡ option_map (table_text shape) (table_of tables label)
  pub unnamed : (name : Text) → is_in name (map file_name labels) ≡ false → file_at new folder name ≡ file_at old folder name
  pub others : (p : Place) → p.0 ≢ folder → map_of.get new.files p ≡ map_of.get old.files p
