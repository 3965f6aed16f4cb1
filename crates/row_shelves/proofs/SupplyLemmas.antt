-- Whether shelves are enough for rows to come.
use Rattle.std.proofs.Common.{◌≡◌, ◌<◌, ◌≤◌, ◌+◌, ◌*◌, ◌-◌, ◌∷◌, [], ℕ, Vec, Global, List, zero, suc, sym, refl, ◌∙◌, ap, length, map, arith}
use Rattle.std.specs.List.{AllByRecursion, sum_by}
use Rattle.std.specs.Vec.{vec_len, vec_capacity}
use Rattle.std.proofs.lemmas.List.Sums.{sum_by-cons}
use Rattle.ss_text.specs.Texts.{Row}
use Rattle.row_shelves.specs.Stocks.{Stock}
use Rattle.row_shelves.specs.Shelves.{IsShelf, seen_shelf, shelf_changed, same_shelf}
use Rattle.row_shelves.specs.Blanks.{beyond_half, surplus, AreSupplied}

-- a shelf that is not full has at most 31 rows beyond its half
pub surplus_short : {Z : Type 0} (ss : List (Vec Stock Z)) → AllByRecursion IsShelf ss → surplus ss ≤ 31 * length ss
surplus_short [] h = omega arith
surplus_short (s ∷ ss) h = omega (arith, sum_by-cons beyond_half s ss, surplus_short ss h.1, h.0.room, h.0.large)

-- sums over elements that are seen as others
sum_seen : {X Y : Type 0} (f : X → ℕ) (g : Y → ℕ) (see : X → Y) → ((x : X) → f x ≡ g (see x)) → (xs : List X) → sum_by f xs ≡ sum_by g (map see xs)
sum_seen f g see same [] = refl
sum_seen f g see same (x ∷ xs) = sum_by-cons f x xs ∙ (λ i. same x i + sum_seen f g see same xs i) ∙ sym (sum_by-cons g (see x) (map see xs))

pub same_surplus : {Z : Type 0} (ss ts : List (Vec Stock Z)) → map same_shelf ss ≡ map same_shelf ts → surplus ss ≡ surplus ts
same_surplus ss ts e =
    let count : List (Row × Row) × ℕ × ℕ → ℕ = λ t. t.1 - 32 in
    sum_seen beyond_half count same_shelf (λ s. refl) ss ∙ ap (sum_by count) e ∙ sym (sum_seen beyond_half count same_shelf (λ s. refl) ts)

pub surplus_changed : {Z : Type 0} (g : Stock → Stock) (ss ts : List (Vec Stock Z)) → map seen_shelf ss ≡ map (shelf_changed g) (map seen_shelf ts) → surplus ss ≡ surplus ts
surplus_changed g ss ts e =
    let count : List Stock × ℕ × ℕ → ℕ = λ t. t.1 - 32 in
    sum_seen beyond_half count seen_shelf (λ s. refl) ss ∙ ap (sum_by count) e
    ∙ sym (sum_seen count count (shelf_changed g) (λ t. refl) (map seen_shelf ts)) ∙ sym (sum_seen beyond_half count seen_shelf (λ s. refl) ts)

-- the same for shelves that are as long
pub still_supplied : (ss ts new : Vec (Vec Stock Global) Global) (n : ℕ) → surplus ss.items ≡ surplus ts.items → vec_len ss ≡ vec_len ts → vec_capacity ss ≡ vec_capacity ts → AreSupplied ts new n → AreSupplied ss new n
still_supplied ss ts new n sums count capacity h = record {
  enough = omega (arith, sums, count, h.enough);
  space = omega (arith, count, capacity, h.space);
  back = λ some. h.back (omega (arith, count, some));
}

-- what is enough for some rows is for one
pub one_supplied : (ss new : Vec (Vec Stock Global) Global) (n : ℕ) → 0 < n → AreSupplied ss new n → AreSupplied ss new 1
one_supplied ss new n some h = record { enough = omega (arith, some, h.enough); space = h.space; back = h.back }

-- a row is taken out, or all: a last shelf that gets empty waits again
pub taken_supplied : (ss ts new old : Vec (Vec Stock Global) Global) (n e : ℕ) → surplus ss.items ≤ surplus ts.items → vec_len ss + e ≤ vec_len ts → (vec_len ss ≡ 0 → 0 < vec_len ts → 0 < e) → vec_capacity ss ≡ vec_capacity ts
    → (vec_len ss ≡ 0 → vec_len new ≡ vec_len old + e) → (0 < vec_len ss → vec_len new ≡ vec_len old) → vec_capacity new ≡ vec_capacity old → AreSupplied ts old n → AreSupplied ss new n
taken_supplied ss ts new old n e sums count last capacity waits same room h = by_count (vec_len ss) refl
  where
    by_some : (m : ℕ) → vec_len ts ≡ m → vec_len ss ≡ 0 → AreSupplied ss new n
    by_some zero none z = record { enough = omega (arith, none, z, sums, waits z, count, h.enough); space = omega (arith, waits z, z, count, capacity, h.space); back = λ some. absurd (omega (arith, some, z)) }
    by_some (suc m) some z = record { enough = omega (arith, some, z, sums, waits z, last z (omega (arith, some)), h.enough); space = omega (arith, waits z, z, count, capacity, h.space); back = λ there. absurd (omega (arith, there, z)) }

    by_count : (m : ℕ) → vec_len ss ≡ m → AreSupplied ss new n
    by_count zero z = by_some (vec_len ts) refl z
    by_count (suc m) some =
        let there : 0 < vec_len ss = omega (arith, some) in
        record { enough = omega (arith, some, sums, same there, count, h.enough); space = omega (arith, same there, count, capacity, h.space); back = λ q. omega (arith, same there, room, h.back (omega (arith, count, there))) }
