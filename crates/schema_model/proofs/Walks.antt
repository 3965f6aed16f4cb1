-- Walks over placed rows.
use Rattle.std.proofs.Common.{◌≡◌, ℕ, ◌+◌, ◌<◌, List, [], ◌∷◌, ◌++◌, true, false, cond, refl, arith, ap, sym, ◌∙◌, length, ◌==◌, Option, Some, None, ◌||◌, append_assoc}
use Rattle.std.specs.List.{AllByRecursion}
use Rattle.std.proofs.lemmas.Bool.Decides.{Decides-eqb}
use Rattle.std.proofs.lemmas.Map.Keys.{IsDistinct-head, IsDistinct-tail}
use Rattle.ss_text.specs.Texts.{Row}
use Rattle.schema_model.specs.Placed.{Placed, placed_rows, places, first_place, after_place, row_at, is_place, ArePlaces}

-- the rows from a place on
abbrev pub from_place : ℕ → Placed → Placed
from_place k [] = []
from_place k (p ∷ ps) = cond (k == p.0) (p ∷ ps) (from_place k ps)

abbrev pub rows_from : Option ℕ → Placed → Placed
rows_from None ps = []
rows_from (Some k) ps = from_place k ps

-- the place is one of these, if it is there
abbrev pub IsThere : Option ℕ → Placed → Type 0
IsThere None ps = Unit {0}
IsThere (Some k) ps = is_place k ps ≡ true

self : (k : ℕ) → (k == k) ≡ true
self k = (Decides-eqb k k).1 refl

pub starts : (ps : Placed) → rows_from (first_place ps) ps ≡ ps
starts [] = refl
starts (p ∷ ps) = rw (self p.0) refl

pub starts_there : (ps : Placed) → IsThere (first_place ps) ps
starts_there [] = tt
starts_there (p ∷ ps) = rw (self p.0) refl

-- a place that is there stands before its row and the rows after it
pub stands_here : (k : ℕ) (ps : Placed) → is_place k ps ≡ true → from_place k ps ≡ (k, row_at k ps) ∷ after_place k ps
stands_here k [] h = absurd (cc)
stands_here k (p ∷ ps) h =
    elim (k == p.0) as (λ b. (k == p.0) ≡ b → from_place k (p ∷ ps) ≡ (k, row_at k (p ∷ ps)) ∷ after_place k (p ∷ ps)) [
      | true ↦ λ e. let same : k ≡ p.0 = (Decides-eqb k p.0).0 e in rw e (ap (λ j. (j, p.1) ∷ ps) (sym same))
      | false ↦ λ e. rw e (stands_here k ps (rw e at h))
    ] refl

-- a place behind another one is another place
other : (j k : ℕ) (ps : Placed) → AllByRecursion (λ y. (k == y) ≡ false) (places ps) → is_place j ps ≡ true → (j == k) ≡ false
other j k [] fresh h = absurd (cc)
other j k (p ∷ ps) fresh h =
    elim (j == p.0) as (λ b. (j == p.0) ≡ b → (j == k) ≡ false) [
      | true ↦ λ e. let same : j ≡ p.0 = (Decides-eqb j p.0).0 e in rw same (flipped p.0 k fresh.0)
      | false ↦ λ e. other j k ps fresh.1 (rw e at h)
    ] refl
  where
    flipped : (a b : ℕ) → (b == a) ≡ false → (a == b) ≡ false
    flipped a b h = elim (a == b) as (λ t. (a == b) ≡ t → t ≡ false) [
      | true ↦ λ e. let back : (b == a) ≡ true = (Decides-eqb b a).1 (sym ((Decides-eqb a b).0 e)) in absurd (cc)
      | false ↦ λ e. refl
    ] refl

skips : (p : ℕ × Row) (ps : Placed) (o : Option ℕ) → AllByRecursion (λ y. (p.0 == y) ≡ false) (places ps) → IsThere o ps → rows_from o (p ∷ ps) ≡ rows_from o ps
skips p ps None fresh h = refl
skips p ps (Some k) fresh h = rw (other k p.0 ps fresh h) refl

skips_there : (p : ℕ × Row) (ps : Placed) (o : Option ℕ) → IsThere o ps → IsThere o (p ∷ ps)
skips_there p ps None h = tt
skips_there p ps (Some k) h = rw h (elim (k == p.0) as (λ b. (b || true) ≡ true) [ true ↦ refl | false ↦ refl ])

pub goes_there : (k : ℕ) (ps : Placed) → IsThere (first_place (after_place k ps)) ps
goes_there k [] = tt
goes_there k (p ∷ ps) =
    elim (k == p.0) as (λ b. IsThere (first_place (cond b ps (after_place k ps))) (p ∷ ps)) [
      | true ↦ skips_there p ps (first_place ps) (starts_there ps)
      | false ↦ skips_there p ps (first_place (after_place k ps)) (goes_there k ps)
    ]

-- the next place stands before the rows after this one
pub goes_on : (k : ℕ) (ps : Placed) → ArePlaces ps → rows_from (first_place (after_place k ps)) ps ≡ after_place k ps
goes_on k [] distinct = refl
goes_on k (p ∷ ps) distinct =
    elim (k == p.0) as (λ b. rows_from (first_place (cond b ps (after_place k ps))) (p ∷ ps) ≡ cond b ps (after_place k ps)) [
      | true ↦ skips p ps (first_place ps) (IsDistinct-head ◌==◌ p.0 (places ps) distinct) (starts_there ps) ∙ starts ps
      | false ↦ skips p ps (first_place (after_place k ps)) (IsDistinct-head ◌==◌ p.0 (places ps) distinct) (goes_there k ps) ∙ goes_on k ps (IsDistinct-tail ◌==◌ p.0 (places ps) distinct)
    ]

-- one step of a walk that collects the rows
pub walks_on : (k : ℕ) (ps : Placed) (xs : List Row) (row : Row) → ArePlaces ps → is_place k ps ≡ true → row ≡ row_at k ps → xs ++ placed_rows (rows_from (Some k) ps) ≡ placed_rows ps → (xs ++ row ∷ []) ++ placed_rows (rows_from (first_place (after_place k ps)) ps) ≡ placed_rows ps
walks_on k ps xs row distinct h is walked =
    append_assoc xs (row ∷ []) (placed_rows (rows_from (first_place (after_place k ps)) ps))
    ∙ ap (λ qs. xs ++ row ∷ placed_rows qs) (goes_on k ps distinct)
    ∙ ap (λ r. xs ++ r ∷ placed_rows (after_place k ps)) is
    ∙ ap (λ qs. xs ++ placed_rows qs) (sym (stands_here k ps h))
    ∙ walked

pub walk_shortens : (k : ℕ) (ps : Placed) → ArePlaces ps → is_place k ps ≡ true → length (rows_from (first_place (after_place k ps)) ps) < length (rows_from (Some k) ps)
walk_shortens k ps distinct h = omega (arith, ap length (goes_on k ps distinct), ap length (stands_here k ps h))
