-- What tables say of a key.
use Rattle.std.specs.Prelude.{◌&&◌, List, [], ◌∷◌, map, if◌then◌else◌}
use Rattle.ss_text.specs.Texts.{Text, Row, text_eq, row_eq, is_in}
use Rattle.flow_law.specs.Tables.{TableValue, cell_in, cell_of}
use Rattle.flow_law.specs.declared.line.TableLine.{TableLine}
use Rattle.flow_law.specs.declared.line.TableLine.TheVariants.{Cell}

-- the text of a key under a name: a part of the key under a constant column, and else a cell, empty where there is none
abbrev pub text_of : Row → TableValue → Row → Text → Text
text_of constants t key name = if is_in name constants then cell_in constants key name else cell_of t key name

-- the same by the columns and the cells of the key's row
abbrev pub text_in : Row → Row → Row → Row → Text → Text
text_in constants columns key cells name = if is_in name constants then cell_in constants key name else cell_in columns cells name

-- the record of a key, in the order of attributes
abbrev pub record_of : Row → Row → TableValue → Row → Row
record_of constants attributes t key = map (text_of constants t key) attributes

-- the columns and values of the lines at the front that are of cells in one row
abbrev pub front_cells : Text → Row → List TableLine → List (Text × Text)
front_cells label key [] = []
front_cells label key (Cell l column value k ∷ lines) = if text_eq label l && row_eq key k then (column, value) ∷ front_cells label key lines else []
front_cells label key (line ∷ lines) = []

-- the text under a name that was this one, after cells of its row got values
abbrev pub text_after : Text → List (Text × Text) → Text → Text
text_after name [] text = text
text_after name (x ∷ cells) text = text_after name cells (if text_eq name x.0 then x.1 else text)

-- the record of a key after its cells got values
abbrev pub record_after : Row → Row → TableValue → Row → List (Text × Text) → Row
record_after constants attributes t key cells = map (λ name. text_after name cells (text_of constants t key name)) attributes
