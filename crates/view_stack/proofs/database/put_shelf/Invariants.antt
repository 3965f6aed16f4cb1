use Rattle.std.proofs.Common.{◌≡◌, take}
use Rattle.row_shelves.specs.Stocks.{rows_of}
use Rattle.schema_model.specs.States.{settled}
use Rattle.view_stack.specs.Putting.{rows_put}
use Rattle.flow_law.specs.Records.{row_records}
use Rattle.view_stack.proofs.database.put_shelf.Given as goal

abbrev pub invariant-loop-row : goal.invariant-loop-row
invariant-loop-row l = l.catalogue ≡ settled (rows_put l.rel (row_records l.spot (rows_of (take l.row-index l.shelf))) l.fn.catalogue.databases)
