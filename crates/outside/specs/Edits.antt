-- What a list of edits leaves, which is made whole or not at all.
use Rattle.std.specs.Prelude.{◌≡◌, ◌⊎◌, List, [], ◌∷◌, option_map}
use Rattle.outside.specs.States.{StoreState}
use Rattle.outside.specs.Stored.{Stored, stored, writing, removing, making_folder, removing_folder}
use Rattle.outside.specs.declared.edit.Edit.{Edit}
use Rattle.outside.specs.declared.edit.Edit.TheVariants.{MakeFolder, Write, Remove, RemoveFolder}

-- after one edit
abbrev pub edited : Edit → Stored → Stored
edited (MakeFolder folder) s = making_folder folder s
edited (Write folder file bytes) s = writing folder file bytes s
edited (Remove folder file) s = removing folder file s
edited (RemoveFolder folder) s = removing_folder folder s

-- after all of them, in order
abbrev pub all_edited : List Edit → Stored → Stored
all_edited [] s = s
all_edited (e ∷ es) s = all_edited es (edited e s)

-- all edits were made
abbrev pub AllMade : List Edit → StoreState → StoreState → Type 0
AllMade edits old new = stored new ≡ option_map (all_edited edits) (stored old)

-- none was, or all were
abbrev pub NoneOrAllMade : List Edit → StoreState → StoreState → Type 0
NoneOrAllMade edits old new = (stored new ≡ stored old) ⊎ AllMade edits old new
