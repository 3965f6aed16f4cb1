use Rattle.std.proofs.Common.{◌≡◌, ◌≢◌, ◌++◌, [], map, drop}
use Rattle.std.specs.List.{AllByRecursion}
use Rattle.csv_catalog.specs.RecordText.{csv_text}
use Rattle.csv_catalog.specs.Written.{IsBetweenRecords, written}
use Rattle.csv_catalog.proofs.write.write_rows.Given as goal

abbrev pub invariant-loop-row : goal.invariant-loop-row
invariant-loop-row l = record {
  between : IsBetweenRecords l.writer;
  text : written l.writer ++ csv_text (map (λ r. r.now) (drop l.row-index l.rows)) ≡ written l.fn.writer ++ csv_text (map (λ r. r.now) l.rows);
  some : AllByRecursion (λ row. row ≢ []) (map (λ r. r.now) (drop l.row-index l.rows));
}
