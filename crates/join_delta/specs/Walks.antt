-- A walk over the live rows that pass a test.
use Rattle.std.specs.Prelude.{ℕ, List, [], ◌∷◌, Bool, Option, None, Some, filter}
use Rattle.ss_text.specs.Texts.{Row}
use Rattle.row_links.specs.Chained.{Placed}
use Rattle.row_links.specs.Live.{at_place, following}

-- the rows without their places
abbrev pub rows_of : Placed → List Row
rows_of [] = []
rows_of (e ∷ es) = e.1 ∷ rows_of es

-- from a place on, those that pass
abbrev pub rest_from : (Row → Bool) → Placed → Option ℕ → Placed
rest_from test live None = []
rest_from test live (Some p) = elim (at_place p live) as (λ _. Placed) [ None ↦ [] | Some row ↦ (p, row) ∷ filter (λ e. test e.1) (following p live) ]
