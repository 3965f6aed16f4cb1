-- Where a text is found in a row, and terms that say so.
use Rattle.std.specs.Prelude.{slice_get, Option, Some, None}
use Rattle.ss_text.specs.Texts.{Text, Row}
use Rattle.plan_law.specs.Links.{Source}
use Rattle.plan_law.specs.Links as link
use Rattle.plan_form.specs.declared.cell.Cell.{Cell}
use Rattle.plan_form.specs.declared.cell.Cell.TheVariants as cell

-- the text of a cell in a row
abbrev pub text_in : Row → Cell → Option Text
text_in row (cell.Given t) = Some t
text_in row (cell.At i) = slice_get row i
text_in row cell.Nowhere = None

-- the cell of a row for a source in it, of two rows the left one or the right one
abbrev pub term_cell : Option Source → Cell
term_cell None = cell.Nowhere
term_cell (Some (link.Given t)) = cell.Given t
term_cell (Some (link.Left i)) = cell.At i
term_cell (Some (link.Right j)) = cell.Nowhere

abbrev pub right_cell : Source → Cell
right_cell (link.Given t) = cell.Given t
right_cell (link.Left i) = cell.Nowhere
right_cell (link.Right j) = cell.At j
