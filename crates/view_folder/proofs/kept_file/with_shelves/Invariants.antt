use Rattle.std.proofs.Common.{◌≡◌, ◌++◌, take}
use Rattle.csv_catalog.specs.RecordText.{csv_text}
use Rattle.row_shelves.specs.Stocks.{rows_of}
use Rattle.row_shelves.specs.Shelves.{all_rows}
use Rattle.flow_law.specs.Records.{row_records}
use Rattle.view_folder.proofs.kept_file.with_shelves.Given as goal

abbrev pub invariant-loop-shelf : goal.invariant-loop-shelf
invariant-loop-shelf l = l.text ≡ l.fn.text ++ csv_text (row_records l.spot (rows_of (all_rows (take l.shelf-index l.shelves))))
