-- Rows that are kept as counts.
use Rattle.std.specs.Prelude.{◌≡◌, ℕ, ◌<◌, ◌^◌, List, Option, length, map, unwrap_or}
use Rattle.std.specs.Map.{lookup}
use Rattle.ss_text.specs.Texts.{Row, row_eq}
use Rattle.counts.specs.declared.moves.Move.{Move}
use Rattle.operator_law.specs.declared.delta.Signed.{Signed}
use Rattle.operator_law.specs.Bags.{weigh, is, MovesBag}

-- the rows that are there with their counts, and the change that waits
pub record BagValue : Type 0 where
  pub counts : List (Row × ℕ)
  pub waiting : Option (List Signed)

-- how often a row is there
abbrev pub count_in : BagValue → Row → ℕ
count_in b r = unwrap_or (lookup (row_eq r) b.counts) 0

-- each of these rows is counted as often as it stands in the list
abbrev pub AreCountsOf : (Row → ℕ) → List Row → Type 0
AreCountsOf count rows = (r : Row) → count r ≡ weigh (is r) rows

-- these rows are kept
abbrev pub KeepsRows : BagValue → List Row → Type 0
KeepsRows b rows = AreCountsOf (count_in b) rows

-- signed rows as moves of keys
abbrev pub row_move : Signed → Move Row
row_move m = record { key = m.row; up = m.up }

abbrev pub row_moves : List Signed → List (Move Row)
row_moves ms = map row_move ms

-- the counts are those of rows that the moves fit, and the rows after them can be counted
pub record CanBeCounted (count : Row → ℕ) (ms : List Signed) : Type 0 where
  pub old : List Row
  pub new : List Row
  pub counts : AreCountsOf count old
  pub moves : MovesBag old ms new
  pub few : length new < 2 ^ 128

-- the moves take rows with the former counts to rows with the latter
abbrev pub MovesRowCounts : (Row → Option ℕ) → List Signed → (Row → Option ℕ) → Type 0
MovesRowCounts former ms latter =
    (old new : List Row) → AreCountsOf (λ r. unwrap_or (former r) 0) old → MovesBag old ms new → AreCountsOf (λ r. unwrap_or (latter r) 0) new
