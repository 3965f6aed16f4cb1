-- Facts as rows: the label, the values of the constant columns, and where the view has a variable column the column
-- label and the value.
use Rattle.std.specs.Prelude.{◌≡◌, ℕ, ◌+◌, [], ◌∷◌, ◌++◌, length, Option, Some, None, is_some, slice_index_or, slice_range}
use Rattle.ss_text.specs.Texts.{Text, Row}
use Rattle.flow_law.specs.declared.shape.Shape.{Shape}
use Rattle.flow_law.specs.Facts.{Fact}

abbrev pub cell_texts : Option (Text × Text) → Row
cell_texts None = []
cell_texts (Some c) = c.0 ∷ c.1 ∷ []

abbrev pub fact_row : Fact → Row
fact_row f = f.label ∷ (f.key ++ cell_texts f.cell)

-- how many texts a fact's row has, where there are so many constant columns, and a variable column or none
abbrev pub row_width : ℕ → Option ℕ → ℕ
row_width count None = count + 1
row_width count (Some spot) = count + 3

abbrev pub fact_width : Shape → ℕ
fact_width shape = row_width (length shape.constants) shape.spot

-- the cell of a row, behind so many others
abbrev pub cell_behind : ℕ → Row → Option ℕ → Option (Text × Text)
cell_behind count row None = None
cell_behind count row (Some spot) = Some (slice_index_or row count [], slice_index_or row (count + 1) [])

-- the fact of a row of this width
abbrev pub fact_in : Shape → Row → Fact
fact_in shape row =
    let count = length shape.constants in
    record { label = slice_index_or row 0 []; key = slice_range row 1 (count + 1); cell = cell_behind (count + 1) row shape.spot }

-- a fact that has a value for each constant column, and a cell just where there is a variable column
pub record IsFactOf (shape : Shape) (f : Fact) : Type 0 where
  pub key : length f.key ≡ length shape.constants
  pub cell : is_some f.cell ≡ is_some shape.spot
