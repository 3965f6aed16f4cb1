-- A table that is filled row by row.
use Rattle.std.specs.Prelude.{[]}
use Rattle.std.specs.List.Sorted.{IsStrictlySortedBy}
use Rattle.ss_text.specs.Texts.{Row, text_cmp}
use Rattle.flow_law.specs.Tables.{table_value}
use Rattle.flow_law.specs.InOrder.{IsTable}

pub no_rows_in_order : (columns : Row) → IsStrictlySortedBy text_cmp columns → IsTable (table_value columns [])
unfolding IsStrictlySortedBy
no_rows_in_order columns h = record { columns = h; keys = tt; cells = tt }
