use Rattle.std.proofs.Common.{◌≡◌, take}
use Rattle.ss_text.specs.Texts.{Text}
use Rattle.view_folder.specs.Files.{is_named, has_name}
use Rattle.view_folder.proofs.opening.names_of.Given as goal

abbrev pub invariant-loop-file : goal.invariant-loop-file
invariant-loop-file l = (name : Text) → has_name l.names.keys name ≡ is_named (take l.file-index l.files) name
