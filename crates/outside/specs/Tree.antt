-- Folders, and what each of their files holds.
use Rattle.std.specs.Prelude.{◌≡◌, ◌≢◌, ℕ, suc, zero, ◌==◌, true, List, [], ◌∷◌, ◌++◌, length, take, drop, not, ◌&&◌, Bool, option_and_then, slice_index, Option, None, Some, bytes_eq, if◌then◌else◌}
use Rattle.std.specs.declared.cmp.Ordering.{Ordering}
use Rattle.std.specs.Ordering.{ordering_then}
use Rattle.std.specs.List.{list_any, filter_map}
use Rattle.std.specs.FinMap as map
use Rattle.ss_text.specs.Texts.{text_cmp}

-- a file, by its folder and its name
abbrev pub Place : Type 0
Place = List ℕ × List ℕ

-- by folder, and then by name
abbrev pub place_cmp : Place → Place → Ordering
place_cmp a b = ordering_then (text_cmp a.0 b.0) (text_cmp a.1 b.1)

pub record Tree : Type 0 where
  pub folders : map.FinMap text_cmp (Unit {0})
  pub files : map.FinMap place_cmp (List ℕ)

-- what a file holds, if it is there
abbrev pub file_at : Tree → List ℕ → List ℕ → Option (List ℕ)
file_at t folder file = map.get t.files (folder, file)

-- the names of the places that lie in a folder
abbrev pub names_in : List ℕ → List Place → List (List ℕ)
names_in folder [] = []
names_in folder (place ∷ places) = if bytes_eq place.0 folder then place.1 ∷ names_in folder places else names_in folder places

-- the names of the files in a folder, ascending
abbrev pub files_of : Tree → List ℕ → List (List ℕ)
files_of t folder = names_in folder (map.keys t.files)

-- what stands before each `/` among the first n bytes
abbrev pub fronts : List ℕ → ℕ → List (List ℕ)
fronts folder zero = []
fronts folder (suc n) = if slice_index folder n == 47 then fronts folder n ++ take n folder ∷ [] else fronts folder n

-- the folders above a folder, and itself
abbrev pub folder_path : List ℕ → List (List ℕ)
folder_path folder = fronts folder (length folder) ++ folder ∷ []

-- these folders too
abbrev pub with_folders : List (List ℕ) → map.FinMap text_cmp (Unit {0}) → map.FinMap text_cmp (Unit {0})
with_folders [] folders = folders
with_folders (f ∷ fs) folders = with_folders fs (map.insert folders f tt)

abbrev pub named : List (List ℕ) → List (List ℕ × Unit {0})
named [] = []
named (f ∷ fs) = (f, tt) ∷ named fs

-- the folders of these names
abbrev pub folder_set : List (List ℕ) → map.FinMap text_cmp (Unit {0})
folder_set names = map.from_entries (named names)

-- what follows a front, where a list has it
abbrev pub after_front : List ℕ → List ℕ → Option (List ℕ)
after_front [] ys = Some ys
after_front (x ∷ xs) [] = None
after_front (x ∷ xs) (y ∷ ys) = if x == y then after_front xs ys else None

-- a name of one part
abbrev pub is_part : List ℕ → Bool
is_part name = not (length name == 0) && not (list_any (λ b. b == 47) name)

-- the one part after a `/`
abbrev pub part_after : List ℕ → Option (List ℕ)
part_after rest = if slice_index rest 0 == 47 && is_part (drop 1 rest) then Some (drop 1 rest) else None

-- the name in a folder of a folder that lies right in it
abbrev pub child_name : List ℕ → List ℕ → Option (List ℕ)
child_name folder full = option_and_then part_after (after_front folder full)

-- the names of the folders right in a folder, ascending
abbrev pub children_in : List ℕ → List (List ℕ) → List (List ℕ)
children_in folder fulls = filter_map (child_name folder) fulls

abbrev pub subfolders_of : Tree → List ℕ → List (List ℕ)
subfolders_of t folder = children_in folder (map.keys t.folders)

-- whether a folder is there
abbrev pub has_folder : Tree → List ℕ → Bool
has_folder t folder = map.contains_key t.folders folder

-- whether a folder is there without files and subfolders
abbrev pub has_empty_folder : Tree → List ℕ → Bool
has_empty_folder t folder = has_folder t folder && (length (files_of t folder) == 0) && (length (subfolders_of t folder) == 0)

-- after a file is written
abbrev pub with_file : List ℕ → List ℕ → List ℕ → Tree → Tree
with_file folder file bytes t = record { folders = with_folders (folder_path folder) t.folders; files = map.insert t.files (folder, file) bytes }

-- after a file is removed
abbrev pub without_file : List ℕ → List ℕ → Tree → Tree
without_file folder file t = record { folders = t.folders; files = map.remove t.files (folder, file) }

-- these folders, and a folder with those above it where it is missing
abbrev pub with_missing : List ℕ → map.FinMap text_cmp (Unit {0}) → map.FinMap text_cmp (Unit {0})
with_missing folder folders = if map.contains_key folders folder then folders else with_folders (folder_path folder) folders

-- after a folder is made
abbrev pub with_folder : List ℕ → Tree → Tree
with_folder folder t = record { folders = with_missing folder t.folders; files = t.files }

-- after a folder is removed, where it was there without files and subfolders
abbrev pub without_folder : List ℕ → Tree → Tree
without_folder folder t = record { folders = if has_empty_folder t folder then map.remove t.folders folder else t.folders; files = t.files }

-- after a call on this one file broke off, which may have made these folders
pub record BrokeOff (path : List (List ℕ)) (folder file : List ℕ) (old new : Tree) : Type 0 where
  pub others : (p : Place) → p ≢ (folder, file) → map.get new.files p ≡ map.get old.files p
  pub kept : (d : List ℕ) → map.contains_key old.folders d ≡ true → map.contains_key new.folders d ≡ true
  pub made : (d : List ℕ) → map.contains_key new.folders d ≡ true → map.contains_key (with_folders path old.folders) d ≡ true

-- whether a store tells stays, and where it tells, the file broke off
pub record MayBreakOff (path : List (List ℕ)) (folder file : List ℕ) (old new : Option Tree) : Type 0 where
  pub untold : old ≡ None → new ≡ None
  pub told : (t : Tree) → old ≡ Some t → (u : Tree) × (new ≡ Some u) × BrokeOff path folder file t u

-- after a call on this one folder broke off, which may have made these folders
pub record FolderBrokeOff (path : List (List ℕ)) (folder : List ℕ) (old new : Tree) : Type 0 where
  pub files : new.files ≡ old.files
  pub kept : (d : List ℕ) → d ≢ folder → has_folder old d ≡ true → has_folder new d ≡ true
  pub made : (d : List ℕ) → d ≢ folder → has_folder new d ≡ true → map.contains_key (with_folders path old.folders) d ≡ true

-- whether a store tells stays, and where it tells, the folder broke off
pub record FolderMayBreakOff (path : List (List ℕ)) (folder : List ℕ) (old new : Option Tree) : Type 0 where
  pub untold : old ≡ None → new ≡ None
  pub told : (t : Tree) → old ≡ Some t → (u : Tree) × (new ≡ Some u) × FolderBrokeOff path folder t u

-- the map of these entries
abbrev pub files_map : List (Place × List ℕ) → map.FinMap place_cmp (List ℕ)
files_map es = map.from_entries es

-- the tree of these folders and these entries
abbrev pub tree_of : List (List ℕ) → List (Place × List ℕ) → Tree
tree_of folders es = record { folders = folder_set folders; files = files_map es }
