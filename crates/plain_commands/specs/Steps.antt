-- What the steps of a command answer, against the definitions.
use Rattle.std.specs.Prelude.{◌≡◌, ◌⊎◌, true, List, Option, None, Some, Result, Ok, Err}
use Rattle.ss_text.specs.Texts.{Row}
use Rattle.view_folder.specs.declared.file.File.{File}
use Rattle.view_folder.specs.Files.{AreViewFiles}
use Rattle.outside.specs.Effects.{World, contents, performed, Partly}
use Rattle.outside.specs.declared.stop.Stop.{Stop}
use Rattle.course.specs.declared.status.Verdict.TheVariants as verdict
use Rattle.course.specs.Answering.{Reply, Continues, Finishes, effects_of}
use Rattle.plain_commands.specs.Applying.{ApplyState}
use Rattle.course.specs.Course.{verdict_status, is_refused_status}
use Rattle.plain_commands.specs.declared.tables.Showing.{Showing}
use Rattle.plain_commands.specs.declared.tables.Showing.TheVariants as showing
use Rattle.plain_commands.specs.Meant.{MeantOrRefused}
use Rattle.plain_commands.specs.declared.meant.Meant.{Meant}
use Rattle.plain_commands.specs.declared.meant.Meant.TheVariants as meant_as
use Rattle.plain_commands.specs.declared.applying.Folder.{Folder}
use Rattle.plain_commands.specs.declared.applying.Folder.TheVariants as folder

-- the files of a view, or the fields of its refusal
abbrev pub Shows : Showing → Option Row → List File → Type 0
Shows (showing.Files fs) None files = fs.items ≡ files
Shows (showing.Files fs) (Some fields) files = ⊥
Shows (showing.Refused row) None files = ⊥
Shows (showing.Refused row) (Some fields) files = row ≡ fields

-- these files are each named as that of a table
abbrev pub AreNamed : Showing → Type 0
AreNamed (showing.Files fs) = AreViewFiles fs.items
AreNamed (showing.Refused row) = Unit {0}

-- the files of a view with its database, or the fields of the first refusal with its verdict
abbrev pub meant_of : Meant → MeantOrRefused
meant_of (meant_as.Files view_db fs) = Ok (record { view_db = view_db; files = fs.items })
meant_of (meant_as.Refused fields v) = Err (fields, v)

-- a run that this ended was refused
abbrev pub IsMeantRefusal : Meant → Type 0
IsMeantRefusal (meant_as.Files view_db fs) = Unit {0}
IsMeantRefusal (meant_as.Refused fields v) = is_refused_status (verdict_status v) ≡ true

-- its files are each named as that of a table
abbrev pub AreMeantNamed : Meant → Type 0
AreMeantNamed (meant_as.Files view_db fs) = AreViewFiles fs.items
AreMeantNamed (meant_as.Refused fields v) = Unit {0}

-- what the opening of a view's folder did
abbrev pub FolderOpens : Reply ApplyState → World → World → Result Folder Stop → Type 0
FolderOpens (Continues es a) old new (Ok (folder.Open s)) = (contents new ≡ performed es (contents old)) × (s ≡ a)
FolderOpens (Continues es a) old new (Ok (folder.Ended v)) = ⊥
FolderOpens (Finishes es w) old new (Ok (folder.Open s)) = ⊥
FolderOpens (Finishes es w) old new (Ok (folder.Ended v)) = (contents new ≡ performed es (contents old)) × (v ≡ w)
FolderOpens r old new (Err e) = Partly (effects_of r) (contents old) (contents new)

-- a run that such an opening ended was refused for its definition or for the folder
abbrev pub IsFolderRefusal : Folder → Type 0
IsFolderRefusal (folder.Open s) = Unit {0}
IsFolderRefusal (folder.Ended v) = (v ≡ verdict.BadDefinition) ⊎ (v ≡ verdict.BadCatalogue)
