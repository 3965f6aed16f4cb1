-- What is done to the folder of the sources where databases and relations have changed.
use Rattle.std.specs.Prelude.{Bool, not, List, ◌++◌, map, filter, is_some, codes}
use Rattle.std.specs.Option.{option_map_or}
use Rattle.ss_text.specs.Texts.{Text}
use Rattle.outside.specs.declared.edit.Edit.{Edit}
use Rattle.outside.specs.declared.edit.Edit.TheVariants.{MakeFolder, Write, Remove, RemoveFolder}
use Rattle.schema_model.specs.declared.pair.Pair.{Pair}
use Rattle.schema_model.specs.Catalogue.{RelationValue, CatalogueValue, database_of, relation_of}
use Rattle.csv_catalog.specs.Loaded.{database_folder}
use Rattle.csv_catalog.specs.RecordText.{csv_text, relation_records}

-- the name of a relation's file
abbrev pub relation_file : Text → Text
relation_file rel = rel ++ codes ".csv"

-- of these databases those that the catalogue has, and those that it has not
abbrev pub is_there : CatalogueValue → Text → Bool
is_there c db = is_some (database_of c db)

abbrev pub those_there : CatalogueValue → List Text → List Text
those_there c dbs = filter (is_there c) dbs

abbrev pub those_gone : CatalogueValue → List Text → List Text
those_gone c dbs = filter (λ db. not (is_there c db)) dbs

abbrev pub folders_made : List Text → List Edit
folders_made dbs = map (λ db. MakeFolder (database_folder db)) dbs

abbrev pub folders_removed : List Text → List Edit
folders_removed dbs = map (λ db. RemoveFolder (database_folder db)) dbs

-- a relation that is there is written, and the file of one that is not is removed
abbrev pub pair_saved : CatalogueValue → Pair → Edit
pair_saved c p =
    option_map_or (λ (r : RelationValue). Write (database_folder p.db) (relation_file p.rel) (csv_text (relation_records r))) (relation_of c p.db p.rel) (Remove (database_folder p.db) (relation_file p.rel))

abbrev pub pairs_saved : CatalogueValue → List Pair → List Edit
pairs_saved c pairs = map (pair_saved c) pairs

-- the folders of these databases that are there, then these relations, and then the folders of those that are gone
abbrev pub saved : CatalogueValue → List Text → List Pair → List Edit
saved c dbs pairs = folders_made (those_there c dbs) ++ pairs_saved c pairs ++ folders_removed (those_gone c dbs)
