-- Rows, each behind the place at which it stands.
use Rattle.std.specs.Prelude.{ℕ, ◌+◌, ◌==◌, Bool, List, [], ◌∷◌, map, cond, Option, Some, None}
use Rattle.std.specs.List.{list_any, IsDistinct}
use Rattle.ss_text.specs.Texts.{Row}

abbrev pub Placed : Type 0
Placed = List (ℕ × Row)

-- the rows alone, and the places alone
abbrev pub placed_rows : Placed → List Row
placed_rows ps = map (λ (p : ℕ × Row). p.1) ps

abbrev pub places : Placed → List ℕ
places ps = map (λ (p : ℕ × Row). p.0) ps

-- places that are all different
abbrev pub ArePlaces : Placed → Type 0
ArePlaces ps = IsDistinct ◌==◌ (places ps)

-- whether a row stands at a place, and which
abbrev pub is_place : ℕ → Placed → Bool
is_place k ps = list_any (λ (p : ℕ × Row). k == p.0) ps

abbrev pub row_at : ℕ → Placed → Row
row_at k [] = []
row_at k (p ∷ ps) = cond (k == p.0) p.1 (row_at k ps)

-- the place of the first row, and the rows behind a place
abbrev pub first_place : Placed → Option ℕ
first_place [] = None
first_place (p ∷ ps) = Some p.0

abbrev pub after_place : ℕ → Placed → Placed
after_place k [] = []
after_place k (p ∷ ps) = cond (k == p.0) ps (after_place k ps)

-- rows with their places counted on from a number
abbrev pub numbered : ℕ → List Row → Placed
numbered k [] = []
numbered k (row ∷ rows) = (k, row) ∷ numbered (k + 1) rows
