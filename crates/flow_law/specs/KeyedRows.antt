-- What the rows of a table are seen as.
use Rattle.std.specs.Prelude.{◌<◌, List, map}
use Rattle.std.specs.Vec.{vec_len, vec_capacity}
use Rattle.ss_text.specs.Texts.{Row}
use Rattle.flow_law.specs.declared.keyed_row.KeyedRow.{KeyedRow}

-- a key and its cells
abbrev pub row_value : KeyedRow → Row × Row
row_value r = (r.key, r.cells.items)

abbrev pub row_values : List KeyedRow → List (Row × Row)
row_values rs = map row_value rs

-- a row that takes one more cell without memory
abbrev pub HasRoom : KeyedRow → Type 0
HasRoom r = vec_len r.cells < vec_capacity r.cells
