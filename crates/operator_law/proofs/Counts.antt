-- Lists in which each element stands equally often weigh the same.
use Rattle.std.proofs.Common.{◌≡◌, ℕ, ◌+◌, ◌<◌, List, [], ◌∷◌, ◌++◌, Bool, true, false, cond, refl, arith, ap, sym, map, filter, not}
use Rattle.std.specs.Bool.{Decides}
use Rattle.std.proofs.lemmas.Slice.Eq.{bytes_eq-Decides, slice_eq-Decides}
use Rattle.ss_text.specs.Texts.{Row, row_eq}
use Rattle.operator_law.specs.Bags.{weigh, come, go, MovesBag, MovesCounts, is}
use Rattle.operator_law.specs.declared.delta.Signed.{Signed}
use Rattle.operator_law.proofs.Weights.{weigh-append}

module _ {X : Type 0} (eq : X → X → Bool) (decides : (x y : X) → Decides (eq x y) (x ≡ y)) where
  -- how often x stands in ys
  abbrev count : X → List X → ℕ
  count x ys = weigh (λ y. cond (eq x y) 1 0) ys

  -- the list with one x fewer
  less : (x : X) (ys : List X) → 0 < count x ys → (zs : List X) × ((f : X → ℕ) → weigh f ys ≡ f x + weigh f zs)
  less x [] h = absurd (omega arith)
  less x (y ∷ ys) h =
      elim (eq x y) as (λ b. eq x y ≡ b → (zs : List X) × ((f : X → ℕ) → f y + weigh f ys ≡ f x + weigh f zs)) [
        | true ↦ λ e. (ys, λ f. ap (λ w. f w + weigh f ys) (sym ((decides x y).0 e)))
        | false ↦ λ e.
            let here : ◌≡◌ {A = ℕ} (cond (eq x y) 1 0) 0 = rw e in
            let rest = less x ys (omega (arith, here)) in
            (y ∷ rest.0, λ f. omega (arith, rest.1 f))
      ] refl

  one : (x : X) → ◌≡◌ {A = ℕ} (cond (eq x x) 1 0) 1
  one x = rw ((decides x x).1 refl)

  -- lists in which each element stands equally often weigh the same
  pub same_counts : (xs ys : List X) → ((x : X) → count x xs ≡ count x ys) → (f : X → ℕ) → weigh f xs ≡ weigh f ys
  same_counts [] [] h f = refl
  same_counts [] (y ∷ ys) h f = absurd (omega (arith, h y, one y))
  same_counts (x ∷ xs) ys h f =
      let rest = less x ys (omega (arith, h x, one x)) in
      omega (arith, rest.1 f, same_counts xs rest.0 (λ r. omega (arith, h r, rest.1 (λ y. cond (eq r y) 1 0))) f)

-- whether rows are the same
pub row_eq-Decides : (x y : Row) → Decides (row_eq x y) (x ≡ y)
row_eq-Decides x y = slice_eq-Decides bytes_eq-Decides x y (row_eq x y) refl

-- the rows of the moves with one sign
picked : (Bool → Bool) → List Signed → List Row
picked p ms = map (λ m. m.row) (filter (λ m. p m.up) ms)

come-picked : (f : Row → ℕ) (ms : List Signed) → come f ms ≡ weigh f (picked (λ b. b) ms)
unfolding picked
come-picked f [] = refl
come-picked f (m ∷ ms) =
    elim m.up as (λ b. cond b (f m.row) 0 + come f ms ≡ weigh f (map (λ m. m.row) (cond b (m ∷ filter (λ m. m.up) ms) (filter (λ m. m.up) ms)))) [
      | true ↦ omega (arith, come-picked f ms)
      | false ↦ omega (arith, come-picked f ms)
    ]

go-picked : (f : Row → ℕ) (ms : List Signed) → go f ms ≡ weigh f (picked not ms)
unfolding picked
go-picked f [] = refl
go-picked f (m ∷ ms) =
    elim m.up as (λ b. cond b 0 (f m.row) + go f ms ≡ weigh f (map (λ m. m.row) (cond (not b) (m ∷ filter (λ m. not m.up) ms) (filter (λ m. not m.up) ms)))) [
      | true ↦ omega (arith, go-picked f ms)
      | false ↦ omega (arith, go-picked f ms)
    ]

-- it is enough to count each row
pub moves_from_counts : (xs ys : List Row) (ms : List Signed) → MovesCounts xs ms ys → MovesBag xs ms ys
moves_from_counts xs ys ms h f =
    let counts : (r : Row) → weigh (is r) (xs ++ picked (λ b. b) ms) ≡ weigh (is r) (ys ++ picked not ms) =
    λ r. omega (arith, h r, weigh-append (is r) xs (picked (λ b. b) ms), weigh-append (is r) ys (picked not ms), come-picked (is r) ms, go-picked (is r) ms) in
    omega (
      arith,
      same_counts row_eq row_eq-Decides (xs ++ picked (λ b. b) ms) (ys ++ picked not ms) counts f,
      weigh-append f xs (picked (λ b. b) ms),
      weigh-append f ys (picked not ms),
      come-picked f ms,
      go-picked f ms,
    )
