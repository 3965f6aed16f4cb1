-- The files of a view folder.
use Rattle.std.specs.Prelude.{◌≡◌, true, false, ◌-◌, Bool, ◌&&◌, not, List, [], ◌∷◌, ◌++◌, filter, drop, length, Option, None, Some, is_some, if◌then◌else◌, codes}
use Rattle.std.specs.Borrow.{Bor}
use Rattle.ss_text.specs.Texts.{Text, text_eq, is_in}
use Rattle.std.specs.List.{list_any, AllByRecursion}
use Rattle.outside.specs.Tree.{Tree, file_at}
use Rattle.view_folder.specs.declared.file.File.{File}

-- whether a file has this name
abbrev pub is_named : List File → Text → Bool
is_named files name = list_any (λ (f : File). text_eq name f.name) files

-- whether a name is behind one of these references
abbrev pub has_name : List (Bor Text) → Text → Bool
has_name names name = list_any (λ (n : Bor Text). text_eq name n.now) names

-- the bytes of the file of a name, where there is one
abbrev pub bytes_in : List File → Text → Option Text
bytes_in [] name = None
bytes_in (f ∷ fs) name = if text_eq name f.name then Some f.bytes else bytes_in fs name

-- the folder of a view's database
abbrev pub view_folder : Text → Text
view_folder view_db = codes "views/" ++ view_db

-- whether a name ends in `.csv`
abbrev pub is_csv_name : Text → Bool
is_csv_name name = text_eq (drop (length name - 4) name) (codes ".csv")

-- of these names, those that end in `.csv` and are no file's
abbrev pub other_names : List File → List Text → List Text
other_names files names = filter (λ name. is_csv_name name && not (is_named files name)) names

-- names that all end in `.csv`, each once
abbrev pub AreViewFiles : List File → Type 0
AreViewFiles [] = Unit {0}
AreViewFiles (f ∷ fs) = (is_csv_name f.name ≡ true) × (is_named fs f.name ≡ false) × AreViewFiles fs

-- texts that stand once each
abbrev pub Apart : List Text → Type 0
Apart [] = Unit {0}
Apart (n ∷ ns) = (is_in n ns ≡ false) × Apart ns

-- each of these files is there
abbrev pub AreThere : Text → List Text → Tree → Type 0
AreThere folder names t = AllByRecursion (λ name. is_some (file_at t folder name) ≡ true) names

-- the name of the file of a label
abbrev pub file_name : Text → Text
file_name label = label ++ codes ".csv"
