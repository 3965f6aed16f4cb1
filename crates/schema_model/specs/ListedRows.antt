-- Rows in a list, and the rows that were made ready to be added to it.
use Rattle.std.specs.Prelude.{◌≡◌, List, ◌∷◌, drop}
use Rattle.ss_text.specs.Texts.{Row}

pub record ListedRows : Type 0 where
  pub rows : List Row
  pub waiting : List Row

abbrev pub listed_rows : List Row → List Row → ListedRows
listed_rows rows waiting = record { rows = rows; waiting = waiting }

-- the first of the rows that wait is this one
abbrev pub IsNext : Row → List Row → Type 0
IsNext row waiting = waiting ≡ row ∷ drop 1 waiting
