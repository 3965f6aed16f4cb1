-- The part of a row that a chain goes by.
use Rattle.std.specs.Prelude.{ℕ, List, Bool, Option, Some, map, slice_get, bytes_eq}
use Rattle.std.specs.Cmp.Lexicographic.{pointwise}
use Rattle.std.specs.Option.{option_eq}
use Rattle.ss_text.specs.Texts.{Row, Text}
use Rattle.row_links.specs.declared.part.Part.{Part}
use Rattle.row_links.specs.declared.part.Part.TheVariants.{Whole, Cells}

-- all cells of a row
abbrev pub whole : Row → List (Option Text)
whole row = map Some row

-- the cells of a row at these positions
abbrev pub cells_at : List ℕ → Row → List (Option Text)
cells_at positions row = map (slice_get row) positions

abbrev pub picked : Part → Row → List (Option Text)
picked Whole row = whole row
picked (Cells positions) row = cells_at positions.now row

abbrev pub same_cells : List (Option Text) → List (Option Text) → Bool
same_cells a b = pointwise (option_eq bytes_eq) a b
