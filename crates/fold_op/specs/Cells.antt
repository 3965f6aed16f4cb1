-- The cells of a row that are wanted.
use Rattle.std.specs.Prelude.{ℕ, Bool, List, [], map, slice_index_or}
use Rattle.std.specs.List.{list_all, position_or_len}
use Rattle.ss_text.specs.Texts.{Text, Row, text_eq, is_in}
use Rattle.operator_law.specs.Rows.{cells_at}

-- whether all that are wanted are among the attributes
abbrev pub has_all : Row → Row → Bool
has_all wanted attributes = list_all (λ w. is_in w attributes) wanted

-- the place of an attribute, and those of the wanted ones
abbrev pub place_of : Row → Text → ℕ
place_of attributes name = position_or_len (text_eq name) attributes

abbrev pub places_of : Row → Row → List ℕ
places_of wanted attributes = map (place_of attributes) wanted

-- the cell at a place, empty where there is none
abbrev pub cell_at : Row → ℕ → Text
cell_at row k = slice_index_or row k []

-- the wanted cells of a row
abbrev pub picked : Row → Row → Row → Row
picked wanted attributes row = cells_at (places_of wanted attributes) row
