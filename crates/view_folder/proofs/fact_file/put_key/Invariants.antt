use Rattle.std.proofs.Common.{ℕ, List, ◌++◌, take, drop}
use Rattle.ss_text.specs.Texts.{Row}
use Rattle.view_folder.specs.Fields.{IsWithin}
use Rattle.view_folder.proofs.fact_file.put_key.Given as goal

abbrev pub invariant-loop-place : goal.invariant-loop-place
invariant-loop-place t l = (ended : List ℕ) (fields : Row) → IsWithin ended fields l.fn.writer → IsWithin ended (fields ++ drop l.from (take l.place l.row.0)) l.writer
