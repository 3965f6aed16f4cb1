-- The values that facts have for a column, and where the cells of facts pass it.
use Rattle.std.specs.Prelude.{Bool, not, ◌==◌, List, [], length, map, filter, Some, unwrap_or}
use Rattle.std.specs.List.{filter_map}
use Rattle.std.specs.Ordering.{is_gt}
use Rattle.ss_text.specs.Texts.{Text, Row, text_cmp, row_cmp}
use Rattle.ss_text.specs.Ascending.{ascending, least}
use Rattle.flow_law.specs.Facts.{Fact, value_in}
use Rattle.flow_law.specs.FactOrder.{cell_cmp}
use Rattle.flow_law.specs.FactTables.{value_for}

-- the values for a column that are not empty
abbrev pub values_for : List Fact → Text → List Text
values_for fs column = filter (λ (v : Text). not (length v == 0)) (filter_map (value_in column) fs)

-- whether a fact's cell stands behind the empty value of a column
abbrev pub is_past : Text → Fact → Bool
is_past column f = is_gt (cell_cmp f.cell (Some (column, [])))

-- the cell of a row whose facts these are, and its cells in these columns
abbrev pub cell_for : List Fact → Text → Text
cell_for fs column = unwrap_or (least text_cmp (values_for fs column)) []

abbrev pub cells_for : Row → List Fact → Row
cells_for columns fs = map (cell_for fs) columns

-- the rows of facts of one table, in these columns
abbrev pub rows_for : Row → List Fact → List (Row × Row)
rows_for columns fs = map (λ key. (key, map (value_for fs key) columns)) (ascending row_cmp (map (λ (f : Fact). f.key) fs))
