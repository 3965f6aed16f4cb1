use Rattle.std.proofs.Common.{◌≡◌, ℕ, List, take}
use Rattle.std.specs.Option.{option_copied}
use Rattle.std.specs.BTreeMap.{get}
use Rattle.ss_text.specs.Texts.{text_cmp}
use Rattle.view_folder.specs.Files.{bytes_in}
use Rattle.view_folder.proofs.comparison.meant_bytes.Given as goal

abbrev pub invariant-loop-file : goal.invariant-loop-file
invariant-loop-file l = (name : List ℕ) → option_copied (get text_cmp l.meant name) ≡ bytes_in (take l.file-index l.files) name
