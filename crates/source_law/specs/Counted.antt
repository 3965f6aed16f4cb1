-- What effects leave of folders and files, and how many of them they write, make or remove.
use Rattle.std.specs.Prelude.{ℕ, ◌+◌, List, [], ◌∷◌, is_some, if◌then◌else◌}
use Rattle.outside.specs.Tree.{Tree, file_at, has_folder, has_empty_folder, with_file, without_file, with_folder, without_folder}
use Rattle.outside.specs.declared.edit.Edit.{Edit}
use Rattle.outside.specs.declared.edit.Edit.TheVariants as edit
use Rattle.outside.specs.Effects.{Effect, Write, Remove, Replace, Print}

-- the tree after one edit, and after edits in order
abbrev pub tree_edited : Edit → Tree → Tree
tree_edited (edit.MakeFolder folder) t = with_folder folder t
tree_edited (edit.Write folder file bytes) t = with_file folder file bytes t
tree_edited (edit.Remove folder file) t = without_file folder file t
tree_edited (edit.RemoveFolder folder) t = without_folder folder t

abbrev pub tree_replaced : List Edit → Tree → Tree
tree_replaced [] t = t
tree_replaced (e ∷ es) t = tree_replaced es (tree_edited e t)

-- the tree after one effect, and after effects in order
abbrev pub tree_by : Effect → Tree → Tree
tree_by (Write folder file bytes) t = with_file folder file bytes t
tree_by (Remove folder file) t = without_file folder file t
tree_by (Replace edits) t = tree_replaced edits t
tree_by (Print bytes) t = t

abbrev pub tree_after : List Effect → Tree → Tree
tree_after [] t = t
tree_after (e ∷ es) t = tree_after es (tree_by e t)

-- how many files and folders one edit writes, makes or removes, and how many edits do in order: what is there is not made, and what is not there, or holds something, is not removed
abbrev pub count_edited : Edit → Tree → ℕ
count_edited (edit.MakeFolder folder) t = if has_folder t folder then 0 else 1
count_edited (edit.Write folder file bytes) t = 1
count_edited (edit.Remove folder file) t = if is_some (file_at t folder file) then 1 else 0
count_edited (edit.RemoveFolder folder) t = if has_empty_folder t folder then 1 else 0

abbrev pub count_replaced : List Edit → Tree → ℕ
count_replaced [] t = 0
count_replaced (e ∷ es) t = count_edited e t + count_replaced es (tree_edited e t)

-- and so of one effect, and of effects in order
abbrev pub count_of : Effect → Tree → ℕ
count_of (Write folder file bytes) t = 1
count_of (Remove folder file) t = if is_some (file_at t folder file) then 1 else 0
count_of (Replace edits) t = count_replaced edits t
count_of (Print bytes) t = 0

abbrev pub counted : List Effect → Tree → ℕ
counted [] t = 0
counted (e ∷ es) t = count_of e t + counted es (tree_by e t)
