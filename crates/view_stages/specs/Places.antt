-- The files and folders that a run may change.
use Rattle.std.specs.Prelude.{◌≡◌, Bool, false, ◌&&◌, List, ◌++◌, map}
use Rattle.std.specs.List.{list_any}
use Rattle.std.specs.FinMap as map_of
use Rattle.std.specs.Ordering.{eq_by_cmp}
use Rattle.ss_text.specs.Texts.{Text, text_eq, is_in}
use Rattle.outside.specs.Tree.{Tree, Place, place_cmp, folder_path, has_folder}
use Rattle.schema_model.specs.declared.pair.Pair.{Pair}
use Rattle.csv_catalog.specs.Loaded.{database_folder}
use Rattle.csv_catalog.specs.SavedTree.{place_of}
use Rattle.view_folder.specs.Files.{is_csv_name}
use Rattle.source_law.specs.Synced.{Synced}

-- what is exempt: the `.csv` files of a folder, the file of a relation, and the folder of a database
pub data Exempt : Type 0 where
  CsvFiles : (folder : Text) → Exempt
  RelationFile : (relation : Pair) → Exempt
  DatabaseFolder : (db : Text) → Exempt

-- whether the file of a place is
abbrev pub is_exempt : Place → Exempt → Bool
is_exempt p (CsvFiles folder) = text_eq p.0 folder && is_csv_name p.1
is_exempt p (RelationFile relation) = eq_by_cmp place_cmp p (place_of relation)
is_exempt p (DatabaseFolder db) = false

-- whether a folder is: those in which a file that is exempt lies are made where they are missing
abbrev pub is_exempt_folder : Text → Exempt → Bool
is_exempt_folder d (CsvFiles folder) = is_in d (folder_path folder)
is_exempt_folder d (RelationFile relation) = is_in d (folder_path (database_folder relation.db))
is_exempt_folder d (DatabaseFolder db) = is_in d (folder_path (database_folder db))

-- every file and every folder that is not exempt is as it was
pub record OthersStay (exempt : List Exempt) (old new : Tree) : Type 0 where
  pub stay : (p : Place) → list_any (is_exempt p) exempt ≡ false → map_of.get new.files p ≡ map_of.get old.files p
  pub folders : (d : Text) → list_any (is_exempt_folder d) exempt ≡ false → has_folder new d ≡ has_folder old d

-- the files of the relations and the folders of the databases that were named up to a sync
abbrev pub sources_of : Synced → List Exempt
sources_of s = map RelationFile s.relations ++ map DatabaseFolder s.databases
