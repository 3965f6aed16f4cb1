use Rattle.std.proofs.Common.{◌≡◌, ◌≢◌, ℕ, List, [], ◌++◌, length}
use Rattle.std.specs.List.{AllByRecursion}
use Rattle.ss_text.specs.Texts.{Row}
use Rattle.csv_catalog.specs.RecordText.{csv_text}
use Rattle.flow_law.specs.Records.{row_records}
use Rattle.view_folder.specs.Fields.{IsWithin}
use Rattle.view_folder.proofs.fact_file.put_rows.Given as goal

abbrev pub invariant-loop-row : goal.invariant-loop-row
invariant-loop-row t l = record {
  keys : AllByRecursion (λ (r : Row × Row). r.0 ≢ []) l.rows;
  text : (ended : List ℕ) → IsWithin ended [] l.fn.writer
      → (so_far : List ℕ) × IsWithin so_far [] l.writer × (so_far ++ csv_text (row_records l.spot l.rows) ≡ ended ++ csv_text (row_records l.spot l.fn.rows));
}

abbrev pub decreases-loop-row : goal.decreases-loop-row
decreases-loop-row t l = length l.rows
