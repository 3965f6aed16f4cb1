-- Rows with the room that they have.
use Rattle.std.specs.Prelude.{ℕ, Bool, ◌<◌, ◌≤◌, List, map, length}
use Rattle.std.specs.List.{list_any}
use Rattle.std.specs.declared.cmp.Ordering.{Ordering}
use Rattle.ss_text.specs.Texts.{Row, row_eq, row_cmp}

-- a key, its cells, and how many cells there is room for
pub record Stock : Type 0 where
  pub key : Row
  pub cells : Row
  pub room : ℕ

abbrev pub stock : Row → Row → ℕ → Stock
stock key cells room = record { key = key; cells = cells; room = room }

abbrev pub stock_key : Stock → Row
stock_key r = r.key

-- a key and its cells
abbrev pub row_of : Stock → Row × Row
row_of r = (r.key, r.cells)

abbrev pub rows_of : List Stock → List (Row × Row)
rows_of rs = map row_of rs

-- the row changed, in the same room
abbrev pub changed : (Row × Row → Row × Row) → Stock → Stock
changed f r = stock (f (row_of r)).0 (f (row_of r)).1 r.room

abbrev pub by_stock : Stock → Stock → Ordering
by_stock a b = row_cmp a.key b.key

-- whether a row has the key
abbrev pub has_key : Row → List Stock → Bool
has_key key rs = list_any (λ (r : Stock). row_eq key r.key) rs

-- the row has room for so many cells
abbrev pub Has : ℕ → Stock → Type 0
Has bound r = bound ≤ r.room

-- an empty cell may be put at this place
pub record HasSpace (place : ℕ) (r : Stock) : Type 0 where
  pub within : place ≤ length r.cells
  pub room : length r.cells < r.room

-- the row has a cell at this place
abbrev pub HasCell : ℕ → Stock → Type 0
HasCell place r = place < length r.cells
