-- What a user relies on of a command that reads no input.
use Rattle.std.specs.Prelude.{◌≡◌, [], ◌∷◌, ◌++◌, length, Some, Ok, codes, decimal}
use Rattle.tab_lines.specs.Spelling.{spell}
use Rattle.outside.specs.Counts.{risen}
use Rattle.outside.specs.Streams.{with_bytes}
use Rattle.outside.specs.Tree.{Tree}
use Rattle.outside.specs.Effects.{World}
use Rattle.view_folder.specs.Sync.{Holds}
use Rattle.view_def.specs.Print.{print}
use Rattle.ss_print.specs.Printing.{same_line}
use Rattle.view_stages.specs.Places.{CsvFiles, OthersStay}
use Rattle.view_stages.specs.Stages.{DefinitionOrRefusal, Accepted, files_of_view}
use Rattle.view_stages.specs.Opened.{IsOpened, folder_of, synced_count, opening_writes}

-- a definition was accepted, and its canonical text was printed
pub record IsChecked (d : DefinitionOrRefusal) (old new : World) : Type 0 where
  pub accepted : Accepted
  pub defined : d ≡ Ok accepted
  pub printed : new.output.held ≡ with_bytes (print accepted.written) old.output.held

-- a view was verified: the `.csv` files of its folder are exactly the canonical files of its meaning, and their number was printed
pub record IsVerified (d : DefinitionOrRefusal) (t : Tree) (old new : World) : Type 0 where
  pub opened : IsOpened d t
  pub files : Holds (folder_of opened.accepted) (files_of_view opened.catalogue opened.accepted.query) t
  pub printed : new.output.held ≡ with_bytes (same_line (length (files_of_view opened.catalogue opened.accepted.query))) old.output.held

-- the view of an accepted definition over an accepted catalogue is not what its folder holds: some `.csv` file of the folder is not that of its meaning, or is missing
abbrev pub Differs : DefinitionOrRefusal → Tree → Type 0
Differs d t = (o : IsOpened d t) → Holds (folder_of o.accepted) (files_of_view o.catalogue o.accepted.query) t → ⊥

-- a view was shown: its definition, the catalogue and the view over it were accepted, the `.csv` files of the view folder are exactly the canonical files of the view's meaning, all other files and folders stay, and the opening line was printed
pub record IsShown (d : DefinitionOrRefusal) (t : Tree) (old new : World) : Type 0 where
  pub opened : IsOpened d t
  pub tree : Tree
  pub told : new.store.tree ≡ Some tree
  pub files : Holds (folder_of opened.accepted) (files_of_view opened.catalogue opened.accepted.query) tree
  pub others : OthersStay (CsvFiles (folder_of opened.accepted) ∷ []) t tree
  pub writes : new.store.writes ≡ risen old.store.writes (opening_writes t opened.catalogue opened.accepted.query)
  pub printed : new.output.held ≡ with_bytes (spell (codes "synced" ∷ decimal (synced_count t opened.catalogue opened.accepted.query) ∷ []) ++ 10 ∷ []) old.output.held
