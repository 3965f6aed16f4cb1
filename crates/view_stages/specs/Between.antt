-- What effects that break off leave: each file and each folder is as a sync found it or as it leaves it, but for the file that was under way; and what is made at once is all there or not at all.
use Rattle.std.specs.Prelude.{◌≡◌, ◌≢◌, List, [], ◌∷◌, ◌++◌, ◌⊎◌, Option, None, Some}
use Rattle.std.specs.FinMap as map_of
use Rattle.ss_text.specs.Texts.{Text}
use Rattle.outside.specs.Tree.{Tree, Place, has_folder}
use Rattle.outside.specs.Effects.{Effect, Write, Remove, Replace, Print}
use Rattle.source_law.specs.Counted.{tree_after}
use Rattle.view_stages.specs.Places.{Exempt, OthersStay}

-- the file that may break off in an effect, and whether it is that of one of these effects, or none
abbrev pub broken_by : Effect → Option Place
broken_by (Write folder file bytes) = Some (folder, file)
broken_by (Remove folder file) = Some (folder, file)
broken_by (Replace edits) = None
broken_by (Print bytes) = None

abbrev pub IsBrokenBy : Option Place → List Effect → Type 0
IsBrokenBy b [] = b ≡ None
IsBrokenBy b (e ∷ es) = (b ≡ broken_by e) ⊎ IsBrokenBy b es

-- but for the file that broke off, each file that is left is as before or as after, and so is each folder
pub record IsBetween (broken : Option Place) (before after left : Tree) : Type 0 where
  pub files : (p : Place) → broken ≢ Some p → (map_of.get left.files p ≡ map_of.get before.files p) ⊎ (map_of.get left.files p ≡ map_of.get after.files p)
  pub folders : (d : Text) → (has_folder left d ≡ has_folder before d) ⊎ (has_folder left d ≡ has_folder after d)

-- but for what is exempt, every file and every folder that is left is as before, or every one is as after
abbrev pub AllOrNothing : List Exempt → Tree → Tree → Tree → Type 0
AllOrNothing exempt before after left = OthersStay exempt before left ⊎ OthersStay exempt after left

-- what is there behind some stages of a run
abbrev pub tree_behind : List (List Effect) → Tree → Tree
tree_behind [] t = t
tree_behind (es ∷ stages) t = tree_behind stages (tree_after es t)

-- of these stages some were done, and what is left is between what is there before the next one and what is there behind it, but for the file of it that broke off; and what is not exempt is all the one or all the other
pub record StopsIn (exempt : List Exempt) (stages : List (List Effect)) (t left : Tree) : Type 0 where
  pub done : List (List Effect)
  pub under_way : List Effect
  pub later : List (List Effect)
  pub are : stages ≡ done ++ under_way ∷ later
  pub broken : Option Place
  pub by : IsBrokenBy broken under_way
  pub between : IsBetween broken (tree_behind done t) (tree_behind (done ++ under_way ∷ []) t) left
  pub at_once : AllOrNothing exempt (tree_behind done t) (tree_behind (done ++ under_way ∷ []) t) left
