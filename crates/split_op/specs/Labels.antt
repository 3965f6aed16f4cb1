-- The labels of fact rows.
use Rattle.std.specs.Prelude.{List, [], map, filter, slice_index_or}
use Rattle.ss_text.specs.Texts.{Text, Row, text_eq, text_cmp}
use Rattle.ss_text.specs.Ascending.{ascending}
use Rattle.operator_law.specs.declared.delta.Signed.{Signed}

-- the label of a fact's row
abbrev pub label_in : Row → Text
label_in row = slice_index_or row 0 []

-- the rows that bear a label
abbrev pub rows_of : Text → List Row → List Row
rows_of label rows = filter (λ (row : Row). text_eq label (label_in row)) rows

-- the moves of rows that bear a label
abbrev pub moves_of : Text → List Signed → List Signed
moves_of label ms = filter (λ (m : Signed). text_eq label (label_in m.row)) ms

-- the labels that moves name, each once, ascending
abbrev pub labels_moved : List Signed → List Text
labels_moved ms = ascending text_cmp (map (λ (m : Signed). label_in m.row) ms)
