-- What is in the folders after what has changed was saved.
use Rattle.std.specs.Prelude.{◌≡◌, Bool, true, false, List, map, Option, option_map}
use Rattle.std.specs.List.{list_any}
use Rattle.std.specs.Ordering.{eq_by_cmp}
use Rattle.std.specs.FinMap as map_of
use Rattle.ss_text.specs.Texts.{Text, is_in}
use Rattle.outside.specs.Tree.{Tree, Place, place_cmp, has_folder, has_empty_folder}
use Rattle.schema_model.specs.declared.pair.Pair.{Pair}
use Rattle.schema_model.specs.Catalogue.{RelationValue, CatalogueValue, relation_of}
use Rattle.csv_catalog.specs.Loaded.{database_folder}
use Rattle.csv_catalog.specs.RecordText.{csv_text, relation_records}
use Rattle.csv_catalog.specs.Saved.{relation_file, those_there, those_gone}

-- the place of a relation's file, and what it is to hold
abbrev pub place_of : Pair → Place
place_of p = (database_folder p.db, relation_file p.rel)

abbrev pub bytes_of : CatalogueValue → Pair → Option Text
bytes_of c p = option_map (λ (r : RelationValue). csv_text (relation_records r)) (relation_of c p.db p.rel)

-- whether a place is that of one of these relations
abbrev pub is_place_among : List Pair → Place → Bool
is_place_among pairs q = list_any (λ (p : Pair). eq_by_cmp place_cmp q (place_of p)) pairs

-- the files of these relations hold what the catalogue has of them, and every other file is as it was; the folders of these databases are there where the catalogue has them, and none of the others stands empty; every other folder stays
pub record HoldsSaved (c : CatalogueValue) (dbs : List Text) (pairs : List Pair) (old new : Tree) : Type 0 where
  pub named : (p : Pair) → is_place_among pairs (place_of p) ≡ true → map_of.get new.files (place_of p) ≡ bytes_of c p
  pub others : (q : Place) → is_place_among pairs q ≡ false → map_of.get new.files q ≡ map_of.get old.files q
  pub there : (db : Text) → is_in db (those_there c dbs) ≡ true → has_folder new (database_folder db) ≡ true
  pub gone : (db : Text) → is_in db (those_gone c dbs) ≡ true → has_empty_folder new (database_folder db) ≡ false
  pub kept : (d : Text) → is_in d (map database_folder (those_gone c dbs)) ≡ false → has_folder old d ≡ true → has_folder new d ≡ true
