-- Rows of facts, as a test of them.
use Rattle.std.specs.Prelude.{Bool, true, ◌&&◌, ◌==◌, [], Option, Some, None, length, slice_index_or}
use Rattle.ss_text.specs.Texts.{Text, Row, text_eq}
use Rattle.flow_law.specs.declared.shape.Shape.{Shape}
use Rattle.flow_law.specs.FactRows.{fact_width}

-- whether a row begins with the constant label, where there is one
abbrev pub bears : Option Text → Row → Bool
bears None row = true
bears (Some label) row = text_eq label (slice_index_or row 0 [])

-- whether it is that of a fact of this form
abbrev pub is_fact_row : Shape → Row → Bool
is_fact_row shape row = length row == fact_width shape && bears shape.label row
