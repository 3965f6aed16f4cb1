-- The tables that a view folder holds, or the first refusal of its files.
use Rattle.std.specs.Prelude.{◌≡◌, Bool, true, false, List, [], ◌∷◌, length, fold, filter, Option, None, Some, Result, Ok, Err}
use Rattle.std.specs.Option.{option_or}
use Rattle.std.specs.List.{AllByRecursion}
use Rattle.std.specs.BTreeMap.{insert_entry}
use Rattle.ss_text.specs.Texts.{Text, Row, text_cmp}
use Rattle.outside.specs.Tree.{Tree, files_of}
use Rattle.csv_catalog.specs.Loaded.{File, files_read, is_relation_file, label_of}
use Rattle.flow_law.specs.declared.shape.Shape.{Shape}
use Rattle.flow_law.specs.Tables.{TableValue, TablesValue}
use Rattle.view_folder.specs.declared.held.TablesFault.{TablesFault}
use Rattle.view_folder.specs.declared.held.TablesFault.TheVariants as fault
use Rattle.view_folder.specs.Records.{table_in, records_fault}

-- the files of these names that are tables' files, a legal label and `.csv`, and are there
abbrev pub files_held : Tree → Text → List Text → List File
files_held t folder names = files_read t folder (filter is_relation_file names)

-- the first fault of these files, in their order
unfoldable pub files_fault : Shape → List File → Option TablesFault
files_fault shape [] = None
files_fault shape (file ∷ files) = option_or (records_fault shape file.0 file.1) (files_fault shape files)

-- these tables with that of a file at the place of its label
abbrev pub with_file : Shape → TablesValue → File → TablesValue
with_file shape ts file = insert_entry text_cmp ts (label_of file.0) (table_in shape file.1)

abbrev pub unless_refused : Option TablesFault → TablesValue → Result TablesValue TablesFault
unless_refused None ts = Ok ts
unless_refused (Some e) ts = Err e

-- the tables of these files, in the order of their labels, or the first fault
abbrev pub held_by : Shape → List File → Result TablesValue TablesFault
held_by shape files = unless_refused (files_fault shape files) (fold (with_file shape) [] files)

-- and those of a folder, whose files are judged in the order of their names
unfoldable pub held : Shape → Tree → Text → Result TablesValue TablesFault
held shape t folder = held_by shape (files_held t folder (files_of t folder))

-- whether a fault is a refusal of what the folder holds
abbrev pub is_refusal : TablesFault → Bool
is_refusal (fault.NoHeader file) = true
is_refusal (fault.NameTwice file name) = true
is_refusal (fault.Ragged file nth want got) = true
is_refusal (fault.NotThisView file) = true
is_refusal fault.ReadFault = false
is_refusal fault.NoMemory = false

-- each key has a text for each constant column
abbrev pub KeysFit : Shape → TableValue → Type 0
KeysFit shape t = AllByRecursion (λ (r : Row × Row). length r.0 ≡ length shape.constants) t.rows

abbrev pub AllKeysFit : Shape → TablesValue → Type 0
AllKeysFit shape ts = AllByRecursion (λ (p : Text × TableValue). KeysFit shape p.1) ts
