-- Numbered rows, walked.
use Rattle.std.proofs.Common.{◌≡◌, ◌<◌, ◌≤◌, ◌+◌, ◌∷◌, [], ℕ, List, Bool, Some, None, refl, ap, zero, suc, length, arith, slice_index_or, true, false, cond, ◌==◌, ◌||◌}
use Rattle.std.specs.Prelude.{nat_lt}
use Rattle.std.specs.List.{AllByRecursion, IsDistinct}
use Rattle.std.proofs.lemmas.Bool.Decides.{nat_tests, Decides-eqb}
use Rattle.ss_text.specs.Texts.{Row}
use Rattle.schema_model.specs.Placed.{Placed, placed_rows, places, first_place, after_place, row_at, is_place, ArePlaces, numbered}

pub rows_numbered : (k : ℕ) (rows : List Row) → placed_rows (numbered k rows) ≡ rows
rows_numbered k [] = refl
rows_numbered k (row ∷ rows) = ap (λ rs. row ∷ rs) (rows_numbered (k + 1) rows)

differs : (j k : ℕ) → j < k → (j == k) ≡ false
differs j k h = grind (arith, nat_tests)

all_differ : (j k : ℕ) (rows : List Row) → j < k → AllByRecursion (λ y. (j == y) ≡ false) (places (numbered k rows))
all_differ j k [] h = tt
all_differ j k (row ∷ rows) h = (differs j k h, all_differ j (k + 1) rows (omega arith))

pub places_numbered : (k : ℕ) (rows : List Row) → ArePlaces (numbered k rows)
unfolding IsDistinct
places_numbered k [] = tt
places_numbered k (row ∷ rows) = (all_differ k (k + 1) rows (omega arith), places_numbered (k + 1) rows)

itself : (k : ℕ) → (k == k) ≡ true
itself k = (Decides-eqb k k).1 refl

later : (j k : ℕ) → j < k → (k == j) ≡ false
later j k h = grind (arith, nat_tests)

place_in : (j k : ℕ) (rows : List Row) → is_place k (numbered j rows) ≡ true → record { from : j ≤ k; to : k < j + length rows }
place_in j k [] h = absurd (cc)
place_in j k (row ∷ rows) h =
    elim (k == j) as (λ b. (k == j) ≡ b → (b || is_place k (numbered (j + 1) rows)) ≡ true → record { from : j ≤ k; to : k < j + length (row ∷ rows) }) [
      | true ↦ λ e is. let same : k ≡ j = (Decides-eqb k j).0 e in record { from = omega (arith, same); to = omega (arith, same) }
      | false ↦ λ e is. let rest = place_in (j + 1) k rows is in record { from = omega (arith, rest.from); to = omega (arith, rest.to) }
    ] refl h

row_numbered : (j i k : ℕ) (rows : List Row) → i < length rows → k ≡ j + i → row_at k (numbered j rows) ≡ slice_index_or rows i []
row_numbered j i k [] h e = absurd (omega (arith, h))
row_numbered j zero k (row ∷ rows) h e =
    let same : k ≡ j = omega (arith, e) in
    rw (same, itself j) refl
row_numbered j (suc i) k (row ∷ rows) h e =
    let other : (k == j) ≡ false = later j k (omega (arith, e)) in
    rw other (row_numbered (j + 1) i k rows (omega (arith, h)) (omega (arith, e)))

first_rest : (j : ℕ) (rows : List Row) → first_place (numbered j rows) ≡ cond (nat_lt 0 (length rows)) (Some j) None
first_rest j [] = refl
first_rest j (row ∷ rows) = let some : nat_lt 0 (length (row ∷ rows)) ≡ true = grind (arith, nat_tests) in rw some refl

pub first_numbered : (rows : List Row) → first_place (numbered 0 rows) ≡ cond (nat_lt 0 (length rows)) (Some 0) None
first_numbered rows = first_rest 0 rows

after_rest : (j i k : ℕ) (rows : List Row) → i < length rows → k ≡ j + i → first_place (after_place k (numbered j rows)) ≡ cond (nat_lt (i + 1) (length rows)) (Some (k + 1)) None
after_rest j i k [] h e = absurd (omega (arith, h))
after_rest j zero k (row ∷ rows) h e =
    let same : k ≡ j = omega (arith, e) in
    let tests : nat_lt (0 + 1) (length (row ∷ rows)) ≡ nat_lt 0 (length rows) = more 0 (length rows) in
    rw (same, itself j, tests) (first_rest (j + 1) rows)
  where
    more : (a b : ℕ) → nat_lt (a + 1) (suc b) ≡ nat_lt a b
    more a b = grind (arith, nat_tests)
after_rest j (suc i) k (row ∷ rows) h e =
    let other : (k == j) ≡ false = later j k (omega (arith, e)) in
    let tests : nat_lt (suc i + 1) (length (row ∷ rows)) ≡ nat_lt (i + 1) (length rows) = more (i + 1) (length rows) (suc i + 1) (omega arith) in
    rw (other, tests) (after_rest (j + 1) i k rows (omega (arith, h)) (omega (arith, e)))
  where
    more : (a b c : ℕ) → c ≡ a + 1 → nat_lt c (suc b) ≡ nat_lt a b
    more a b c h = grind (arith, nat_tests)

pub after_numbered : (k : ℕ) (rows : List Row) → k < length rows → first_place (after_place k (numbered 0 rows)) ≡ cond (nat_lt (k + 1) (length rows)) (Some (k + 1)) None
after_numbered k rows h = after_rest 0 k k rows h (omega arith)

pub row_there : (k : ℕ) (rows : List Row) → k < length rows → row_at k (numbered 0 rows) ≡ slice_index_or rows k []
row_there k rows h = row_numbered 0 k k rows h (omega arith)

pub place_numbered : (k : ℕ) (rows : List Row) → is_place k (numbered 0 rows) ≡ true → k < length rows
place_numbered k rows h = omega (arith, (place_in 0 k rows h).to)

-- what holds of each row holds of the one at a place
pub each_placed : (P : Row → Type 0) (k : ℕ) (ps : Placed) → is_place k ps ≡ true → AllByRecursion P (placed_rows ps) → P (row_at k ps)
each_placed P k [] h all = absurd (cc)
each_placed P k (p ∷ ps) h all = by (k == p.0) h (each_placed P k ps)
  where
    by : (b : Bool) → (b || is_place k ps) ≡ true → (is_place k ps ≡ true → AllByRecursion P (placed_rows ps) → P (row_at k ps)) → P (cond b p.1 (row_at k ps))
    by true here later = all.0
    by false there later = later there all.1
