use Rattle.std.proofs.Common.{ℕ, List, ◌++◌, take}
use Rattle.ss_text.specs.Texts.{Row}
use Rattle.view_folder.specs.Fields.{IsWithin}
use Rattle.view_folder.proofs.fact_file.put_labels.Given as goal

abbrev pub invariant-loop-label : goal.invariant-loop-label
invariant-loop-label l = (ended : List ℕ) (fields : Row) → IsWithin ended fields l.fn.writer → IsWithin ended (fields ++ take l.label-index l.labels) l.writer
