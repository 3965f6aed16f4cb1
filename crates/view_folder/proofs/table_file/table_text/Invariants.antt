use Rattle.std.proofs.Common.{◌≡◌, ◌∷◌, map, take}
use Rattle.ss_text.specs.Texts.{Row}
use Rattle.csv_catalog.specs.RecordText.{csv_text}
use Rattle.flow_law.specs.Records.{spliced}
use Rattle.view_folder.proofs.table_file.table_text.Given as goal

abbrev pub invariant-loop-place : goal.invariant-loop-place
invariant-loop-place l = l.text ≡ csv_text (spliced l.shape.spot l.shape.constants l.table.columns ∷ map (λ (r : Row × Row). spliced l.shape.spot r.0 r.1) (take l.place l.table.rows))
