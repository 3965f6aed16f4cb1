-- What can be put on a list.
use Rattle.std.specs.Prelude.{◌≡◌, ℕ, Bool, true, false, ◌&&◌, List, [], ◌∷◌, bytes_eq}
use Rattle.std.specs.List.{list_any, AllByRecursion}
use Rattle.outside.specs.declared.edit.Edit.{Edit}
use Rattle.outside.specs.declared.edit.Edit.TheVariants as edit
use Rattle.whole_sync.specs.Lists.{IsWord}

-- whether an edit writes this file
abbrev pub writes_file : (folder file : List ℕ) → Edit → Bool
writes_file f n (edit.Write folder file bytes) = bytes_eq f folder && bytes_eq n file
writes_file f n (edit.MakeFolder folder) = false
writes_file f n (edit.Remove folder file) = false
writes_file f n (edit.RemoveFolder folder) = false

-- whether one of these edits does
abbrev pub is_written : (folder file : List ℕ) → List Edit → Bool
is_written f n es = list_any (writes_file f n) es

-- no name of an edit has a byte 0, and it removes no file that one of these edits writes
abbrev pub FitsList : List Edit → Edit → Type 0
FitsList es (edit.Write folder file bytes) = IsWord folder × IsWord file
FitsList es (edit.MakeFolder folder) = IsWord folder
FitsList es (edit.Remove folder file) = IsWord folder × IsWord file × (is_written folder file es ≡ false)
FitsList es (edit.RemoveFolder folder) = IsWord folder

-- no name of these edits has a byte 0, and no file is both written and removed
abbrev pub CanBeListed : List Edit → Type 0
CanBeListed es = AllByRecursion (FitsList es) es

-- these edits write each of these files, which are told by folder and name
abbrev pub AreWritten : List Edit → List (List ℕ × List ℕ) → Type 0
AreWritten es places = AllByRecursion (λ p. is_written p.0 p.1 es ≡ true) places

-- there is one name for each write, and none has a byte 0
abbrev pub Named : List Edit → List (List ℕ) → Type 0
Named [] [] = Unit {0}
Named [] (n ∷ ns) = ⊥
Named (edit.Write folder file bytes ∷ es) [] = ⊥
Named (edit.Write folder file bytes ∷ es) (n ∷ ns) = IsWord n × Named es ns
Named (edit.MakeFolder folder ∷ es) ns = Named es ns
Named (edit.Remove folder file ∷ es) ns = Named es ns
Named (edit.RemoveFolder folder ∷ es) ns = Named es ns
