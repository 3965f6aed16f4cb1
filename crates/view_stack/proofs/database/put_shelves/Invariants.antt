use Rattle.std.proofs.Common.{◌≡◌, take}
use Rattle.row_shelves.specs.Stocks.{rows_of}
use Rattle.row_shelves.specs.Shelves.{all_rows}
use Rattle.schema_model.specs.States.{settled}
use Rattle.view_stack.specs.Putting.{rows_put}
use Rattle.flow_law.specs.Records.{row_records}
use Rattle.view_stack.proofs.database.put_shelves.Given as goal

abbrev pub invariant-loop-shelf : goal.invariant-loop-shelf
invariant-loop-shelf l = l.catalogue ≡ settled (rows_put l.rel (row_records l.spot (rows_of (all_rows (take l.shelf-index l.shelves)))) l.fn.catalogue.databases)
