-- Shelves of which one changes.
use Rattle.std.proofs.Common.{◌≡◌, ◌<◌, ◌∷◌, [], ℕ, Vec, List, refl, zero, suc, length, take, drop, set, arith}
use Rattle.std.specs.Prelude.{insert, remove}
use Rattle.std.specs.List.{AllByRecursion}
use Rattle.row_shelves.specs.Stocks.{Stock}
use Rattle.row_shelves.specs.Shelves.{on_shelf, IsShelf, full}

pub all_weaker : {X : Type 0} (P Q : X → Type 0) → ((x : X) → P x → Q x) → (xs : List X) → AllByRecursion P xs → AllByRecursion Q xs
all_weaker P Q step [] h = tt
all_weaker P Q step (x ∷ xs) h = (step x h.0, all_weaker P Q step xs h.1)

pub somes : {Z : Type 0} (ss : List (Vec Stock Z)) → AllByRecursion IsShelf ss → AllByRecursion (λ s. 0 < length (on_shelf s)) ss
somes ss h = all_weaker IsShelf (λ s. 0 < length (on_shelf s)) (λ s is. is.some) ss h

-- around the one that is set

-- one that is set and one behind it, between those before and those behind
pub all_cut : {X : Type 0} (P : X → Type 0) (xs : List X) (i : ℕ) (front back : X) → i < length xs → AllByRecursion P (take i xs) → AllByRecursion P (drop (suc i) xs) → P front → P back
    → AllByRecursion P (insert (set xs i front) (suc i) back)
all_cut P [] i front back lt before behind p q = absurd (omega arith)
all_cut P (x ∷ xs) zero front back lt before behind p q = (p, (q, behind))
all_cut P (x ∷ xs) (suc i) front back lt before behind p q = (before.0, all_cut P xs i front back (omega arith) before.1 behind p q)

-- one that is taken out between those before and those behind
pub all_without : {X : Type 0} (P : X → Type 0) (xs : List X) (i : ℕ) → AllByRecursion P (take i xs) → AllByRecursion P (drop (suc i) xs) → AllByRecursion P (remove xs i)
all_without P [] zero before behind = tt
all_without P [] (suc i) before behind = tt
all_without P (x ∷ xs) zero before behind = behind
all_without P (x ∷ xs) (suc i) before behind = (before.0, all_without P xs i before.1 behind)

-- a list of no elements
pub nothing : {X : Type 0} (xs : List X) (n : ℕ) → n ≡ length xs → n ≡ 0 → xs ≡ []
nothing [] n e z = refl
nothing (x ∷ xs) n e z = absurd (omega (arith, e, z))

-- a shelf by its numbers
pub is_shelf : {Z : Type 0} (s : Vec Stock Z) → 0 < s.len → s.cap ≡ full → s.len < s.cap → IsShelf s
is_shelf s some large room = record { some = omega (arith, some, s.ok.0); large = large; room = room }
