use Rattle.std.proofs.Common.{ℕ, List, ◌++◌, take}
use Rattle.ss_text.specs.Texts.{Row}
use Rattle.view_folder.specs.Fields.{IsWithin}
use Rattle.view_folder.proofs.fact_file.put_texts.Given as goal

abbrev pub invariant-loop-text : goal.invariant-loop-text
invariant-loop-text l = (ended : List ℕ) (fields : Row) → IsWithin ended fields l.fn.writer → IsWithin ended (fields ++ take l.text-index l.texts) l.writer
