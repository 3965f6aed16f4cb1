-- The tables of facts.
use Rattle.std.specs.Prelude.{List, [], ◌++◌, map, option_to_list, unwrap_or}
use Rattle.std.specs.List.{filter_map}
use Rattle.ss_text.specs.Texts.{Text, Row, text_cmp, row_cmp}
use Rattle.ss_text.specs.Ascending.{ascending, least}
use Rattle.flow_law.specs.declared.shape.Shape.{Shape}
use Rattle.flow_law.specs.Facts.{Fact, column_of, values_at, facts_of}
use Rattle.flow_law.specs.Tables.{TableValue, TablesValue, table_value}

-- the value for a key and a column, empty where no fact has one; where there is no conflict it is the only one
abbrev pub value_for : List Fact → Row → Text → Text
value_for fs key column = unwrap_or (least text_cmp (values_at fs key column)) []

-- the table with the distinct keys and columns of these facts
abbrev pub fact_table : List Fact → TableValue
fact_table fs =
    let columns : Row = ascending text_cmp (filter_map column_of fs) in
    table_value columns (map (λ key. (key, map (value_for fs key) columns)) (ascending row_cmp (map (λ (f : Fact). f.key) fs)))

-- a table for each label of the facts, and for the constant one
unfoldable pub tables : Shape → List Fact → TablesValue
tables shape fs =
    map (λ label. (label, fact_table (facts_of label fs))) (ascending text_cmp (option_to_list shape.label ++ map (λ (f : Fact). f.label) fs))
