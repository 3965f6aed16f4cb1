-- What contracts see of a table that is kept, and what a line makes of it.
use Rattle.std.specs.Prelude.{ℕ, ◌≤◌, ◌+◌, ◌-◌}
use Rattle.flow_law.specs.declared.line.TableLine.{TableLine}
use Rattle.flow_law.specs.declared.line.TableLine.TheVariants.{ColumnPlus, RowPlus}
use Rattle.flow_law.specs.Tables.{TableValue}
use Rattle.flow_law.specs.Lines.{table_after}

-- the table, and how many rows and columns there is memory for beside its own
pub record KeptTableValue : Type 0 where
  pub table : TableValue
  pub rows_coming : ℕ
  pub columns_coming : ℕ

abbrev pub kept_table : TableValue → ℕ → ℕ → KeptTableValue
kept_table table rows columns = record { table = table; rows_coming = rows; columns_coming = columns }

-- how many rows and how many columns a line adds
abbrev pub one_row : TableLine → ℕ
one_row (RowPlus label key) = 1
one_row line = 0

abbrev pub one_column : TableLine → ℕ
one_column (ColumnPlus label column) = 1
one_column line = 0

-- there is memory for what a line adds
pub record HasFor (line : TableLine) (t : KeptTableValue) : Type 0 where
  pub rows : one_row line ≤ t.rows_coming
  pub columns : one_column line ≤ t.columns_coming

-- how many rows and columns may still come behind a line that is made
abbrev pub rows_left : TableLine → ℕ → ℕ
rows_left (RowPlus label key) n = n - 1
rows_left line n = n

abbrev pub columns_left : TableLine → ℕ → ℕ
columns_left (ColumnPlus label column) n = n - 1
columns_left line n = n

-- and may come when a line is expected
abbrev pub rows_more : TableLine → ℕ → ℕ
rows_more (RowPlus label key) n = n + 1
rows_more line n = n

abbrev pub columns_more : TableLine → ℕ → ℕ
columns_more (ColumnPlus label column) n = n + 1
columns_more line n = n

-- the table after a line of its own
abbrev pub kept_after : TableLine → KeptTableValue → KeptTableValue
kept_after line t = kept_table (table_after line t.table) (rows_left line t.rows_coming) (columns_left line t.columns_coming)

-- with memory for what a line adds
abbrev pub kept_for : TableLine → KeptTableValue → KeptTableValue
kept_for line t = kept_table t.table (rows_more line t.rows_coming) (columns_more line t.columns_coming)
