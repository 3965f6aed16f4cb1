-- The calls by which edits are made, in order.
use Rattle.std.specs.Prelude.{ℕ, Bool, true, false, not, List, [], ◌∷◌, ◌++◌, map, None, Some, if◌then◌else◌}
use Rattle.outside.specs.declared.edit.Edit.{Edit}
use Rattle.outside.specs.declared.edit.Edit.TheVariants as edit
use Rattle.whole_sync.specs.declared.moves.Move.{Move}
use Rattle.whole_sync.specs.declared.moves.Move.TheVariants.{MakeFolder, TakePlace, Remove, RemoveFolder}
use Rattle.whole_sync.specs.Disks.{Files, with_file, Call, PutBeside, DropList, Do, Sync}

-- what is written is put beside its place first, under these names
abbrev pub puts : List Edit → List (List ℕ) → List Call
puts [] ns = []
puts (edit.Write folder file bytes ∷ es) [] = []
puts (edit.Write folder file bytes ∷ es) (n ∷ ns) = PutBeside n folder file bytes ∷ puts es ns
puts (edit.MakeFolder folder ∷ es) ns = puts es ns
puts (edit.Remove folder file ∷ es) ns = puts es ns
puts (edit.RemoveFolder folder ∷ es) ns = puts es ns

-- the folders that are made, and the files that take their places
abbrev pub making : List Edit → List (List ℕ) → List Move
making [] ns = []
making (edit.Write folder file bytes ∷ es) [] = []
making (edit.Write folder file bytes ∷ es) (n ∷ ns) = TakePlace n folder file ∷ making es ns
making (edit.MakeFolder folder ∷ es) ns = MakeFolder folder ∷ making es ns
making (edit.Remove folder file ∷ es) ns = making es ns
making (edit.RemoveFolder folder ∷ es) ns = making es ns

-- what is removed
abbrev pub removing : List Edit → List Move
removing [] = []
removing (edit.Write folder file bytes ∷ es) = removing es
removing (edit.MakeFolder folder ∷ es) = removing es
removing (edit.Remove folder file ∷ es) = Remove folder file ∷ removing es
removing (edit.RemoveFolder folder ∷ es) = RemoveFolder folder ∷ removing es

-- what is done of edits once a list is there
abbrev pub moves_of : List Edit → List (List ℕ) → List Move
moves_of es ns = making es ns ++ removing es

-- whether a move makes or writes something
abbrev pub is_making : Move → Bool
is_making (MakeFolder folder) = true
is_making (TakePlace beside folder file) = true
is_making (Remove folder file) = false
is_making (RemoveFolder folder) = false

-- whether a move is one of those that make something, or one of the others
abbrev pub is_due : Bool → Move → Bool
is_due true m = is_making m
is_due false m = not (is_making m)

-- of these moves those that make something, or the others
abbrev pub picked : Bool → List Move → List Move
picked makes [] = []
picked makes (m ∷ ms) = if is_due makes m then m ∷ picked makes ms else picked makes ms

-- what a list names is done: all that makes something, and behind a sync what removes something, and then the list goes
abbrev pub finishing : List Move → List Call
finishing ms = map Do (picked true ms) ++ (Sync ∷ (map Do (picked false ms) ++ (Sync ∷ DropList ∷ [])))

-- the files after edits: what they write, in order, and then what they remove
abbrev pub all_written : List Edit → Files → Files
all_written [] files = files
all_written (edit.Write folder file bytes ∷ es) files = all_written es (with_file folder file (Some bytes) files)
all_written (edit.MakeFolder folder ∷ es) files = all_written es files
all_written (edit.Remove folder file ∷ es) files = all_written es files
all_written (edit.RemoveFolder folder ∷ es) files = all_written es files

abbrev pub all_removed : List Edit → Files → Files
all_removed [] files = files
all_removed (edit.Write folder file bytes ∷ es) files = all_removed es files
all_removed (edit.MakeFolder folder ∷ es) files = all_removed es files
all_removed (edit.Remove folder file ∷ es) files = all_removed es (with_file folder file None files)
all_removed (edit.RemoveFolder folder ∷ es) files = all_removed es files

abbrev pub edited : List Edit → Files → Files
edited es files = all_removed es (all_written es files)
