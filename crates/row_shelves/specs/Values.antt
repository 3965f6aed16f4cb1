-- What contracts see of rows on shelves.
use Rattle.std.specs.Prelude.{ℕ, Bool, List}
use Rattle.std.specs.List.{list_any}
use Rattle.ss_text.specs.Texts.{Row, row_eq}

-- the rows in order of their keys, how many rows may come, and how many cells each row has room for
pub record RowsValue : Type 0 where
  pub rows : List (Row × Row)
  pub coming : ℕ
  pub bound : ℕ

abbrev pub rows_value : List (Row × Row) → ℕ → ℕ → RowsValue
rows_value rows coming bound = record { rows = rows; coming = coming; bound = bound }

-- whether a row has the key
abbrev pub has_row_key : Row → List (Row × Row) → Bool
has_row_key key rows = list_any (λ (r : Row × Row). row_eq key r.0) rows
