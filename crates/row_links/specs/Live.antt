-- What contracts see of linked rows.
use Rattle.std.specs.Prelude.{◌≡◌, ℕ, List, [], ◌∷◌, ◌++◌, cond, nat_eq, Option, None, Some, filter, map}
use Rattle.ss_text.specs.Texts.{Row, row_eq}
use Rattle.slab.specs.Slab.{Slab, get}
use Rattle.row_links.specs.Parts.{whole, cells_at, same_cells}
use Rattle.row_links.specs.Chained.{Placed}

-- the lists of key positions, the live rows with their places in order of adding, and the rows that wait
pub record LinkedRows : Type 0 where
  pub keys : List (List ℕ)
  pub live : Placed
  pub waiting : List Row

-- the rows without their places
abbrev pub rows_alone : Placed → List Row
rows_alone live = map (λ (e : ℕ × Row). e.1) live

-- the place of the first of these
abbrev pub first_place : {X : Type 0} → List (ℕ × X) → Option ℕ
first_place [] = None
first_place (e ∷ es) = Some e.0

-- those behind a place
abbrev pub following : {X : Type 0} → ℕ → List (ℕ × X) → List (ℕ × X)
following place [] = []
following place (e ∷ es) = cond (nat_eq e.0 place) es (following place es)

-- what is at a place
abbrev pub at_place : {X : Type 0} → ℕ → List (ℕ × X) → Option X
at_place place [] = None
at_place place (e ∷ es) = cond (nat_eq e.0 place) (Some e.1) (at_place place es)

-- the live rows that equal a row
abbrev pub rows_like : Row → Placed → Placed
rows_like row live = filter (λ e. row_eq e.1 row) live

-- the live rows whose cells at a key's positions are these
abbrev pub rows_with : List ℕ → Row → Placed → Placed
rows_with key value live = filter (λ e. same_cells (cells_at key e.1) (whole value)) live

-- the live rows that have at a key's positions the cells that a row has at other positions
abbrev pub rows_like_at : List ℕ → List ℕ → Row → Placed → Placed
rows_like_at key positions row live = filter (λ e. same_cells (cells_at key e.1) (cells_at positions row)) live

-- the live rows that have the same cells as a row at a key's positions
abbrev pub rows_beside : List ℕ → Row → Placed → Placed
rows_beside key row live = filter (λ e. same_cells (cells_at key e.1) (cells_at key row)) live

-- the live rows without the first that equals a row
abbrev pub without_first : Row → Placed → Placed
without_first row [] = []
without_first row (e ∷ es) = cond (row_eq e.1 row) es (e ∷ without_first row es)

-- without what is at a place
abbrev pub without_place : {X : Type 0} → ℕ → List (ℕ × X) → List (ℕ × X)
without_place place [] = []
without_place place (e ∷ es) = cond (nat_eq e.0 place) es (e ∷ without_place place es)

-- each of these rows is stored at its place
abbrev pub AreStored : Slab Row → Placed → Type 0
AreStored rows [] = Unit {0}
AreStored rows (e ∷ es) = (get rows e.0 ≡ Some e.1) × AreStored rows es

-- the first waiting row is now the last live one, at a new place
pub record AddsFirst (old new : LinkedRows) : Type 0 where
  pub place : ℕ
  pub is_new : at_place place old.live ≡ None
  pub row : Row
  pub others : List Row
  pub waited : old.waiting ≡ row ∷ others
  pub added : new ≡ record { keys = old.keys; live = old.live ++ (place, row) ∷ []; waiting = others }
