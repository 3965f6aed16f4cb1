-- What is saved of the sources at a sync, and what their folders then hold.
use Rattle.std.specs.Prelude.{◌≡◌, true, false, List, [], ◌∷◌, ◌++◌, Some, Ok}
use Rattle.std.specs.List.{list_all}
use Rattle.std.specs.FinMap as map_of
use Rattle.ss_text.specs.Texts.{Text, is_in}
use Rattle.outside.specs.Tree.{Tree, files_of, subfolders_of}
use Rattle.outside.specs.Effects.{Effect, Replace}
use Rattle.schema_model.specs.declared.pair.Pair.{Pair}
use Rattle.schema_model.specs.Catalogue.{RelationValue, CatalogueValue, relation_of}
use Rattle.csv_catalog.specs.Loaded.{loaded, database_folder, is_relation_file}
use Rattle.csv_catalog.specs.RecordText.{relation_records, starts_with_bom}
use Rattle.csv_catalog.specs.Saved.{saved, is_there}
use Rattle.csv_catalog.specs.SavedTree.{place_of, bytes_of, is_place_among}
use Rattle.view_session.specs.Session.{SessionState}

-- the catalogue at a sync, and the relations and databases that changes named up to it
pub record Synced : Type 0 where
  pub catalogue : CatalogueValue
  pub relations : List Pair
  pub databases : List Text

-- an opening names nothing
abbrev pub unsaved : CatalogueValue → Synced
unsaved c = record { catalogue = c; relations = []; databases = [] }

-- a sync saves what was named since the last one
abbrev pub synced : SessionState → Synced → Synced
synced s before = record {
  catalogue = s.catalogue;
  relations = before.relations ++ s.changed.relations;
  databases = before.databases ++ s.changed.databases;
}

-- all of it at once
abbrev pub saving : SessionState → List Effect
saving s = Replace (saved s.catalogue s.changed.databases s.changed.relations) ∷ []

-- the folder of a database held no files but those of relations, and no folder
pub record HeldOnlyRelations (t : Tree) (db : Text) : Type 0 where
  pub files : list_all is_relation_file (files_of t (database_folder db)) ≡ true
  pub folders : subfolders_of t (database_folder db) ≡ []

-- what can be read back: no relation that was named has a first attribute that begins with a byte order mark, and the folder of each database that was named and is gone held at first only relations
pub record ReadsBack (t : Tree) (s : Synced) : Type 0 where
  pub plain : (p : Pair) (r : RelationValue) → is_place_among s.relations (place_of p) ≡ true → relation_of s.catalogue p.db p.rel ≡ Some r → starts_with_bom (relation_records r) ≡ false
  pub emptied : (db : Text) → is_in db s.databases ≡ true → is_there s.catalogue db ≡ false → HeldOnlyRelations t db

-- the sources at a sync, which were t at first: each relation that was named has its canonical file, or none where it is gone; and what is loaded again is the catalogue
pub record SourcesHold (s : Synced) (t u : Tree) : Type 0 where
  pub named : (p : Pair) → is_place_among s.relations (place_of p) ≡ true → map_of.get u.files (place_of p) ≡ bytes_of s.catalogue p
  pub loads : ReadsBack t s → loaded u ≡ Ok s.catalogue
