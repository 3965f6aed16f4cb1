-- A view that was accepted with its sources: its folder, and what its opening writes and may change.
use Rattle.std.specs.Prelude.{◌≡◌, ℕ, List, [], ◌∷◌, None, Some, Ok, Err}
use Rattle.ss_text.specs.Texts.{Text}
use Rattle.outside.specs.Tree.{Tree, files_of}
use Rattle.outside.specs.Effects.{World}
use Rattle.schema_model.specs.Catalogue.{CatalogueValue}
use Rattle.view_def.specs.Query.{Query}
use Rattle.view_folder.specs.Files.{view_folder}
use Rattle.view_folder.specs.Sync.{opening_count}
use Rattle.view_stages.specs.Open.{OpenValue, just_opened}
use Rattle.view_stages.specs.Places.{Exempt, CsvFiles, OthersStay}
use Rattle.view_stages.specs.Stages.{DefinitionOrRefusal, Accepted, loaded_or_refused, refusal_of, files_of_view}

-- a definition, the catalogue and the view over it were accepted
pub record IsOpened (d : DefinitionOrRefusal) (t : Tree) : Type 0 where
  pub accepted : Accepted
  pub catalogue : CatalogueValue
  pub defined : d ≡ Ok accepted
  pub loaded : loaded_or_refused t ≡ Ok catalogue
  pub unrefused : refusal_of catalogue accepted.query ≡ None

-- the folder of a view
abbrev pub folder_of : Accepted → Text
folder_of a = view_folder a.query.view_db

-- the view of an accepted definition, over the catalogue that it was opened with
abbrev pub view_at_first : {d : DefinitionOrRefusal} {t : Tree} → IsOpened d t → OpenValue
view_at_first o = just_opened o.accepted.query o.catalogue

-- the `.csv` files of its folder may be changed
abbrev pub view_exempt : DefinitionOrRefusal → List Exempt
view_exempt (Ok a) = CsvFiles (folder_of a) ∷ []
view_exempt (Err fields) = []

-- the store tells a tree, whose files and folders that are not exempt are as they were
pub record Keeps (exempt : List Exempt) (t : Tree) (new : World) : Type 0 where
  pub tree : Tree
  pub told : new.store.tree ≡ Some tree
  pub others : OthersStay exempt t tree

-- the count that the opening sync of a view prints
abbrev pub synced_count : Tree → CatalogueValue → Query → ℕ
synced_count t c q = opening_count (files_of_view c q) (files_of t (view_folder q.view_db))

-- how many files it writes and removes
abbrev pub opening_writes : Tree → CatalogueValue → Query → ℕ
opening_writes t c q = synced_count t c q
