-- The catalogue that a store holds, or the first refusal.
use Rattle.std.specs.Prelude.{ℕ, ◌+◌, ◌-◌, Bool, true, false, ◌&&◌, nat_lt, List, [], ◌∷◌, ◌++◌, length, map, filter, take, drop, Option, Some, None, option_map, Result, Ok, Err, bytes_eq, codes, if◌then◌else◌}
use Rattle.std.specs.List.{filter_map}
use Rattle.std.specs.Option.{option_or}
use Rattle.std.specs.declared.cmp.Ordering.{Ordering}
use Rattle.ss_text.specs.Texts.{Text, Row, text_cmp}
use Rattle.ss_text.specs.Label.{is_table_label}
use Rattle.ss_text.specs.Ascending.{ascending}
use Rattle.outside.specs.Tree.{Tree, file_at, files_of, subfolders_of}
use Rattle.schema_model.specs.Catalogue.{RelationValue, DatabaseValue, CatalogueValue, relation_value, database_value, rows_in}
use Rattle.schema_model.specs.declared.Which.TheVariants.{Databases, Relations}
use Rattle.csv_catalog.specs.declared.fault.LoadFault.{LoadFault}
use Rattle.csv_catalog.specs.declared.fault.LoadFault.TheVariants as load
use Rattle.csv_catalog.specs.FileFaults.{file_fault, header_of, rows_of, told_fault}
use Rattle.csv_catalog.specs.Records.{records_of}
use Rattle.schema_model.specs.Limits.{most_databases, most_relations}

-- the folder of the sources, and that of a database in it
abbrev pub sources_folder : Text
sources_folder = codes "sources"

abbrev pub database_folder : Text → Text
database_folder db = codes "sources/" ++ db

-- a relation's file has a legal label and then `.csv` as its name; the label is the relation's name
abbrev pub label_of : Text → Text
label_of file = take (length file - 4) file

abbrev pub is_relation_file : Text → Bool
is_relation_file file = bytes_eq (drop (length file - 4) file) (codes ".csv") && is_table_label (label_of file)

-- the databases, and the files of the relations of one, each ascending
abbrev pub databases_in : Tree → List Text
databases_in t = filter is_table_label (subfolders_of t sources_folder)

abbrev pub files_in : Tree → Text → List Text
files_in t db = filter is_relation_file (files_of t (database_folder db))

-- a file: its name and its records
abbrev pub File : Type 0
File = Text × List Row

-- the files of these names that are there
abbrev pub file_in : Tree → Text → Text → Option File
file_in t folder name = option_map (λ bytes. (name, records_of bytes)) (file_at t folder name)

abbrev pub files_read : Tree → Text → List Text → List File
files_read t folder names = filter_map (file_in t folder) names

-- the files of a database
abbrev pub database_files : Tree → Text → List File
database_files t db = files_read t (database_folder db) (files_in t db)

-- the relation of a file
abbrev pub relation_of : File → RelationValue
relation_of file = relation_value (label_of file.0) (header_of file.1) (rows_of file.1)

abbrev pub by_name : RelationValue → RelationValue → Ordering
by_name r s = text_cmp r.name s.name

-- a database, its relations in the order of their names
abbrev pub database_in : Tree → Text → DatabaseValue
database_in t db = database_value db (ascending by_name (map relation_of (database_files t db)))

abbrev pub catalogue_in : Tree → CatalogueValue
catalogue_in t = map (database_in t) (databases_in t)

-- the first fault of these files, in their order, where so many rows were counted before
unfoldable pub files_fault : Text → ℕ → List File → Option LoadFault
files_fault db count [] = None
files_fault db count (file ∷ files) =
    option_or (option_map (told_fault db file.0) (file_fault count file.1)) (files_fault db (count + length (rows_of file.1)) files)

-- the first fault of a database
abbrev pub database_fault : Tree → Text → ℕ → Option LoadFault
database_fault t db count =
    if nat_lt most_relations (length (files_in t db)) then Some (load.Limit Relations) else files_fault db count (database_files t db)

-- the first fault of these databases, in their order
unfoldable pub databases_fault : Tree → ℕ → List Text → Option LoadFault
databases_fault t count [] = None
databases_fault t count (db ∷ dbs) = option_or (database_fault t db count) (databases_fault t (count + rows_in (database_in t db)) dbs)

-- the first refusal
abbrev pub first_refusal : Tree → Option LoadFault
first_refusal t = if nat_lt most_databases (length (databases_in t)) then Some (load.Limit Databases) else databases_fault t 0 (databases_in t)

abbrev pub unless_refused : Option LoadFault → CatalogueValue → Result CatalogueValue LoadFault
unless_refused None c = Ok c
unless_refused (Some e) c = Err e

-- the catalogue, or the first refusal
unfoldable pub loaded : Tree → Result CatalogueValue LoadFault
loaded t = unless_refused (first_refusal t) (catalogue_in t)

-- whether a fault is a refusal of what the store holds
abbrev pub is_refusal : LoadFault → Bool
is_refusal (load.NoHeader db file) = true
is_refusal (load.NameTwice db file name) = true
is_refusal (load.Ragged db file nth want got) = true
is_refusal (load.Limit which) = true
is_refusal load.ReadFault = false
is_refusal load.NoMemory = false
