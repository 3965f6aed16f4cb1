-- Memory for rows to come: cells for each of them, and shelves that they share.
use Rattle.std.specs.Prelude.{◌≡◌, ℕ, Vec, ◌<◌, ◌≤◌, ◌+◌, ◌-◌, ◌*◌, min, List, []}
use Rattle.std.proofs.Common.{Global}
use Rattle.std.specs.List.{sum_by}
use Rattle.std.specs.Vec.{vec_len, vec_capacity}
use Rattle.ss_text.specs.Texts.{Text}
use Rattle.row_shelves.specs.Stocks.{Stock}
use Rattle.row_shelves.specs.Shelves.{full}

-- an empty shelf with room
pub record IsNewShelf {Z : Type 0} (s : Vec Stock Z) : Type 0 where
  pub none : s.items ≡ []
  pub large : vec_capacity s ≡ full

-- no cells, and room for so many
pub record IsNewRow (bound : ℕ) (cells : Vec Text Global) : Type 0 where
  pub none : cells.items ≡ []
  pub room : bound ≤ vec_capacity cells

-- by how many rows a shelf is longer than half of one, and all of them
abbrev pub beyond_half : {Z : Type 0} → Vec Stock Z → ℕ
beyond_half s = vec_len s - 32

abbrev pub surplus : {Z : Type 0} → List (Vec Stock Z) → ℕ
surplus shelves = sum_by beyond_half shelves

-- a shelf is cut where it gets 64 rows, and each half has 32 of them. So with each row that comes this is one more, and with
-- each new shelf that is taken 32 less, the first shelf of all too
abbrev pub pressure : {Z Y : Type 0} → Vec (Vec Stock Z) Y → ℕ
pressure shelves = surplus shelves.items + (32 - 32 * vec_len shelves)

-- the new shelves are enough for so many rows to come: one for each of them, or one for each 32 that press; and there is room
-- for them, and for one that gets empty
pub record AreSupplied (shelves : Vec (Vec Stock Global) Global) (new : Vec (Vec Stock Global) Global) (coming : ℕ) : Type 0 where
  pub enough : min (32 * coming) (pressure shelves + coming) ≤ 32 * vec_len new
  pub space : vec_len shelves + vec_len new ≤ vec_capacity shelves
  pub back : 0 < vec_len shelves → vec_len new < vec_capacity new
