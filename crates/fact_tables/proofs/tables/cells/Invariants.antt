use Rattle.std.proofs.Common.{◌≡◌, take}
use Rattle.fact_tables.specs.Cells.{cells_for}
use Rattle.fact_tables.proofs.tables.cells.Given as goal

abbrev pub invariant-loop-column : goal.invariant-loop-column
invariant-loop-column t l = l.cells.items ≡ cells_for (take l.column-index l.columns) l.facts
