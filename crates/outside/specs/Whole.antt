-- Trees in which no file lies outside a folder.
use Rattle.std.specs.Prelude.{◌≡◌, Bool, true, Option, None, Some, if◌then◌else◌}
use Rattle.std.specs.List.{list_all}
use Rattle.std.specs.FinMap as map
use Rattle.outside.specs.Tree.{Tree, Place, has_folder}

-- the folder of each file is there
pub record IsWhole (t : Tree) : Type 0 where
  pub folder_of : (p : Place) → map.contains_key t.files p ≡ true → has_folder t p.0 ≡ true

-- and whether it is
abbrev pub is_whole : Tree → Bool
is_whole t = list_all (λ p. has_folder t p.0) (map.keys t.files)

-- what a store in memory tells: its tree, in which the folder of each file is there
unfoldable pub told : Tree → Option Tree
told t = if is_whole t then Some t else None
