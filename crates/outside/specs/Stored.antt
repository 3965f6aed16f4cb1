-- What a store holds, and what is left of it where one file or one folder is written, made or removed.
use Rattle.std.specs.Prelude.{ℕ, List, Option, None, Some, is_some, if◌then◌else◌}
use Rattle.outside.specs.Counts.{risen}
use Rattle.outside.specs.States.{StoreState}
use Rattle.outside.specs.Tree.{Tree, file_at, has_folder, has_empty_folder, with_file, without_file, with_folder, without_folder}

-- the tree, and how many files and folders were written, made or removed
pub record Stored : Type 0 where
  pub tree : Tree
  pub writes : ℕ

abbrev pub stored_of : Option Tree → ℕ → Option Stored
stored_of None n = None
stored_of (Some t) n = Some (record { tree = t; writes = n })

-- the same of a store, where it tells its tree
abbrev pub stored : StoreState → Option Stored
stored s = stored_of s.tree s.writes

abbrev pub writing : List ℕ → List ℕ → List ℕ → Stored → Stored
writing folder file bytes s = record { tree = with_file folder file bytes s.tree; writes = risen s.writes 1 }

abbrev pub removing : List ℕ → List ℕ → Stored → Stored
removing folder file s = record { tree = without_file folder file s.tree; writes = if is_some (file_at s.tree folder file) then risen s.writes 1 else s.writes }

abbrev pub making_folder : List ℕ → Stored → Stored
making_folder folder s = record { tree = with_folder folder s.tree; writes = if has_folder s.tree folder then s.writes else risen s.writes 1 }

abbrev pub removing_folder : List ℕ → Stored → Stored
removing_folder folder s = record { tree = without_folder folder s.tree; writes = if has_empty_folder s.tree folder then risen s.writes 1 else s.writes }
