use Rattle.std.proofs.Common.{◌≡◌, ◌++◌, length}
use Rattle.row_shelves.specs.Values.{rows_value}
use Rattle.kept_tables.proofs.opening.kept_rows.Given as goal

abbrev pub invariant-loop-row : goal.invariant-loop-row
invariant-loop-row t l = record {
  all : l.kept.rows ++ l.rows ≡ l.fn.rows;
  kept : l.kept ≡ rows_value l.kept.rows 0 0;
}

abbrev pub decreases-loop-row : goal.decreases-loop-row
decreases-loop-row t l = length l.rows
