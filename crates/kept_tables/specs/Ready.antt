-- When a table has the memory that it says.
use Rattle.std.specs.Prelude.{ℕ, Vec, ◌≤◌, ◌+◌}
use Rattle.std.proofs.Common.{Global}
use Rattle.std.specs.Vec.{vec_len, vec_capacity}
use Rattle.ss_text.specs.Texts.{Text}
use Rattle.flow_law.specs.Tables.{table_value}
use Rattle.flow_law.specs.InOrder.{IsTable}
use Rattle.row_shelves.specs.Values.{RowsValue}

-- the table is in order, and each column to come has room among the columns and among the cells of each row
pub record IsKeptTable (columns : Vec Text Global) (rows : RowsValue) (coming : ℕ) : Type 0 where
  pub table : IsTable (table_value columns.items rows.rows)
  pub columns_room : vec_len columns + coming ≤ vec_capacity columns
  pub cells_room : vec_len columns + coming ≤ rows.bound
