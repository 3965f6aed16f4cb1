-- Rows that stand on shelves, one shelf after another.
use Rattle.std.specs.Prelude.{◌≡◌, ℕ, Vec, ◌+◌, ◌<◌, ◌≤◌, List, [], ◌∷◌, ◌++◌, map, length, take, slice_index_or}
use Rattle.std.specs.List.{AllByRecursion}
use Rattle.std.specs.List.Sorted.{IsStrictlySortedBy}
use Rattle.std.specs.Vec.{vec_len, vec_capacity}
use Rattle.ss_text.specs.Texts.{Row, row_cmp}
use Rattle.row_shelves.specs.Stocks.{Stock, stock_key, stock, rows_of, Has}
use Rattle.row_shelves.specs.declared.spot.Spot.{Spot}

-- how many rows a shelf has room for
abbrev pub full : ℕ
full = 64

-- the elements of all shelves, in order
abbrev pub joined : {S A : Type 0} → (S → List A) → List S → List A
joined rows [] = []
joined rows (s ∷ ss) = rows s ++ joined rows ss

-- the rows of a shelf, and of all
abbrev pub on_shelf : {Z : Type 0} → Vec Stock Z → List Stock
on_shelf s = s.items

abbrev pub all_rows : {Z : Type 0} → List (Vec Stock Z) → List Stock
all_rows shelves = joined on_shelf shelves

-- the key of the first row of a shelf
abbrev pub first_key : {Z : Type 0} → Vec Stock Z → Row
first_key s = stock_key (slice_index_or (on_shelf s) 0 (stock [] [] 0))

-- a shelf with a row, which may be full
pub record IsFilled {Z : Type 0} (s : Vec Stock Z) : Type 0 where
  pub some : 0 < length s.items
  pub large : vec_capacity s ≡ full

-- a shelf that takes a row more without memory, which may be empty
pub record HasRoom {Z : Type 0} (s : Vec Stock Z) : Type 0 where
  pub large : vec_capacity s ≡ full
  pub room : vec_len s < vec_capacity s

-- a shelf with a row that takes one more
pub record IsShelf {Z : Type 0} (s : Vec Stock Z) : Type 0 where
  pub some : 0 < length s.items
  pub large : vec_capacity s ≡ full
  pub room : vec_len s < vec_capacity s

-- a shelf that is full
pub record IsLong {Z : Type 0} (s : Vec Stock Z) : Type 0 where
  pub many : full ≤ vec_len s
  pub large : vec_capacity s ≡ full

-- a shelf with room for more than one row
pub record IsOpen {Z : Type 0} (s : Vec Stock Z) : Type 0 where
  pub room : vec_len s + 1 < vec_capacity s

-- keys ascend strictly over all shelves, and no shelf is empty or full
pub record AreShelves {Z : Type 0} (shelves : List (Vec Stock Z)) : Type 0 where
  pub keys : IsStrictlySortedBy row_cmp (map stock_key (all_rows shelves))
  pub each : AllByRecursion IsShelf shelves

-- the place among all rows of a spot on a shelf
abbrev pub place_of : {Z : Type 0} → List (Vec Stock Z) → Spot → ℕ
place_of shelves s = s.place + length (all_rows (take s.shelf shelves))

-- the spot has a row
pub record IsOn {Z : Type 0} (shelves : List (Vec Stock Z)) (s : Spot) : Type 0 where
  pub shelf : s.shelf < length shelves
  pub place : (d : Vec Stock Z) → s.place < length (on_shelf (slice_index_or shelves s.shelf d))

-- a row may be put at the spot, where there is a shelf
pub record IsAt {Z : Type 0} (shelves : List (Vec Stock Z)) (s : Spot) : Type 0 where
  pub shelf : 0 < length shelves → s.shelf < length shelves
  pub place : (d : Vec Stock Z) → s.shelf < length shelves → s.place ≤ length (on_shelf (slice_index_or shelves s.shelf d))

-- the shelf at a place has a row, or room for one more
abbrev pub FilledAt : {Z : Type 0} → List (Vec Stock Z) → ℕ → Type 0
FilledAt {Z} shelves i = (d : Vec Stock Z) → IsFilled (slice_index_or shelves i d)

abbrev pub RoomAt : {Z : Type 0} → List (Vec Stock Z) → ℕ → Type 0
RoomAt {Z} shelves i = (d : Vec Stock Z) → HasRoom (slice_index_or shelves i d)

-- the row at the spot has a cell at this place
abbrev pub HasCellAt : {Z : Type 0} → List (Vec Stock Z) → Spot → ℕ → Type 0
HasCellAt {Z} shelves s column = (d : Vec Stock Z) (r : Stock) → column < length (slice_index_or (on_shelf (slice_index_or shelves s.shelf d)) s.place r).cells

-- the shelf at a place is full
abbrev pub LongAt : {Z : Type 0} → List (Vec Stock Z) → ℕ → Type 0
LongAt {Z} shelves i = (d : Vec Stock Z) → IsLong (slice_index_or shelves i d)

-- the shelf at a place has room for more than one row
abbrev pub OpenAt : {Z : Type 0} → List (Vec Stock Z) → ℕ → Type 0
OpenAt {Z} shelves i = (d : Vec Stock Z) → IsOpen (slice_index_or shelves i d)

-- the rows of a shelf, their number, and the room for them
abbrev pub seen_shelf : {Z : Type 0} → Vec Stock Z → List Stock × ℕ × ℕ
seen_shelf s = (s.items, vec_len s, vec_capacity s)

-- each row changed
abbrev pub shelf_changed : (Stock → Stock) → List Stock × ℕ × ℕ → List Stock × ℕ × ℕ
shelf_changed f t = (map f t.0, t.1, t.2)

-- the same but for the room of the rows
abbrev pub same_shelf : {Z : Type 0} → Vec Stock Z → List (Row × Row) × ℕ × ℕ
same_shelf s = (rows_of s.items, vec_len s, vec_capacity s)

-- each row of the shelf has room for so many cells
abbrev pub HaveRoom : {Z : Type 0} → ℕ → Vec Stock Z → Type 0
HaveRoom bound s = AllByRecursion (Has bound) s.items
