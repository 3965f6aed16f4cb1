-- The places of the rows of a relation, by the cell under an attribute.
use Rattle.std.specs.Prelude.{◌≡◌, ◌≤◌, ◌+◌, ℕ, Bool, false, List, [], ◌∷◌, map, drop, length, slice_get, Option, Some, None, cond}
use denote.Ref.{Bor}
use Rattle.ss_text.specs.Texts.{Text, Row, text_eq}
use Rattle.std.specs.Map.{lookup}
use Rattle.schema_model.specs.Catalogue.{RelationValue}
use Rattle.view_meaning.specs.Elements.{cell_under}

-- rows that are borrowed
abbrev pub rows_now : List (Bor Row) → List Row
rows_now rows = map (λ (row : Bor Row). row.now) rows

-- a relation and an attribute
abbrev pub Indexed : Type 0
Indexed = RelationValue × Text

-- the cells of the rows under the attribute, where they have one
abbrev pub cells_of : Indexed → List (Option Text)
cells_of i = map (cell_under i.0.attributes i.1) i.0.rows

-- whether a cell is this text
abbrev pub is_cell : Text → Option Text → Bool
is_cell t None = false
is_cell t (Some s) = text_eq t s

-- the places of the cells that are this text, in ascending order; the first cell stands at n
abbrev pub places_of : Text → ℕ → List (Option Text) → List ℕ
places_of t n [] = []
places_of t n (c ∷ cs) = cond (is_cell t c) (n ∷ places_of t (n + 1) cs) (places_of t (n + 1) cs)

abbrev pub first_of : List ℕ → Option ℕ
first_of [] = None
first_of (p ∷ ps) = Some p

-- the first place of a text
abbrev pub head_of : List (Bor Text × ℕ) → Text → Option ℕ
head_of heads t = lookup (λ (k : Bor Text). text_eq t k.now) heads

-- the cells from n on are indexed: each text has its first place, and each place the next one of the same text
pub record IsIndexed (cells : List (Option Text)) (heads : List (Bor Text × ℕ)) (next : List (Option ℕ)) (n : ℕ) : Type 0 where
  pub heads_are : (t : Text) → head_of heads t ≡ first_of (places_of t n (drop n cells))
  pub next_are : (i : ℕ) (s : Text) → n ≤ i → slice_get cells i ≡ Some (Some s) → slice_get next i ≡ Some (first_of (places_of s (i + 1) (drop (i + 1) cells)))
  pub len : length next ≡ length cells

-- the places from one on that have its text
abbrev pub rest_of : List (Option Text) → Text → Option ℕ → List ℕ
rest_of cells t None = []
rest_of cells t (Some p) = p ∷ places_of t (p + 1) (drop (p + 1) cells)

-- a place that has this text
abbrev pub HasText : List (Option Text) → Text → Option ℕ → Type 0
HasText cells t None = Unit {0}
HasText cells t (Some p) = slice_get cells p ≡ Some (Some t)
