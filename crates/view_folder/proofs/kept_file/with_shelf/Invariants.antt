use Rattle.std.proofs.Common.{◌≡◌, ◌++◌, take}
use Rattle.csv_catalog.specs.RecordText.{csv_text}
use Rattle.row_shelves.specs.Stocks.{rows_of}
use Rattle.flow_law.specs.Records.{row_records}
use Rattle.view_folder.proofs.kept_file.with_shelf.Given as goal

abbrev pub invariant-loop-row : goal.invariant-loop-row
invariant-loop-row l = l.text ≡ l.fn.text ++ csv_text (row_records l.spot (rows_of (take l.row-index l.shelf)))
