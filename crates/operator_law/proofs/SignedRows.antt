-- How signed rows move bags.
use Rattle.std.proofs.Common.{◌≡◌, ℕ, ◌+◌, ◌<◌, List, [], ◌++◌, Bool, true, false, cond, refl, arith, ap, ◌∙◌, map, filter, get_or, length, IsTrue}
use Rattle.std.specs.List.{list_any, position_or_len}
use Rattle.std.proofs.lemmas.List.Sums.{passes_at_first}
use Rattle.ss_text.specs.Texts.{Row, row_eq}
use Rattle.operator_law.specs.Bags.{weigh, come, go, MovesBag, signed, all_signed, less_first}
use Rattle.operator_law.specs.Rows.{cells_at, filtered, projected}
use Rattle.operator_law.specs.declared.delta.Signed.{Signed}
use Rattle.operator_law.proofs.Weights.{weigh-append, weigh-map, weigh-none, weigh-filter, weigh-same, weigh-remove, place_within}
use Rattle.operator_law.proofs.Counts.{row_eq-Decides}

-- lists of moves, one after another
pub come-append : (f : Row → ℕ) (ms ns : List Signed) → come f (ms ++ ns) ≡ come f ms + come f ns
come-append f ms ns = weigh-append (λ (m : Signed). cond m.up (f m.row) 0) ms ns

pub go-append : (f : Row → ℕ) (ms ns : List Signed) → go f (ms ++ ns) ≡ go f ms + go f ns
go-append f ms ns = weigh-append (λ (m : Signed). cond m.up 0 (f m.row)) ms ns

-- all rows that come, and all that go
pub come-up : (f : Row → ℕ) (xs : List Row) → come f (all_signed true xs) ≡ weigh f xs
come-up f xs = weigh-map (λ (m : Signed). cond m.up (f m.row) 0) (signed true) xs

pub go-up : (f : Row → ℕ) (xs : List Row) → go f (all_signed true xs) ≡ 0
go-up f xs = weigh-map (λ (m : Signed). cond m.up 0 (f m.row)) (signed true) xs ∙ weigh-none xs

pub come-down : (f : Row → ℕ) (xs : List Row) → come f (all_signed false xs) ≡ 0
come-down f xs = weigh-map (λ (m : Signed). cond m.up (f m.row) 0) (signed false) xs ∙ weigh-none xs

pub go-down : (f : Row → ℕ) (xs : List Row) → go f (all_signed false xs) ≡ weigh f xs
go-down f xs = weigh-map (λ (m : Signed). cond m.up 0 (f m.row)) (signed false) xs

-- no moves, moves of all rows, and moves one after another
pub stays : (xs ys : List Row) → xs ≡ ys → MovesBag xs [] ys
stays xs ys e f = ap (λ zs. weigh f zs + 0) e

pub all_come : (xs : List Row) → MovesBag [] (all_signed true xs) xs
all_come xs f = omega (arith, come-up f xs, go-up f xs)

pub all_go : (xs : List Row) → MovesBag xs (all_signed false xs) []
all_go xs f = omega (arith, come-down f xs, go-down f xs)

pub moves_on : (xs ys zs : List Row) (ms ns : List Signed) → MovesBag xs ms ys → MovesBag ys ns zs → MovesBag xs (ms ++ ns) zs
moves_on xs ys zs ms ns h k f = omega (arith, h f, k f, come-append f ms ns, go-append f ms ns)

-- rows beside others
pub moves_beside : (xs ys us vs : List Row) (ms ns : List Signed) → MovesBag xs ms ys → MovesBag us ns vs → MovesBag (xs ++ us) (ms ++ ns) (ys ++ vs)
moves_beside xs ys us vs ms ns h k f =
    omega (arith, h f, k f, come-append f ms ns, go-append f ms ns, weigh-append f xs us, weigh-append f ys vs)

-- the first equal row goes
pub weigh-less_first : (f : Row → ℕ) (row : Row) (rows : List Row) → IsTrue (list_any (row_eq row) rows) → weigh f (less_first row rows) + f row ≡ weigh f rows
weigh-less_first f row rows h =
    let i = position_or_len (row_eq row) rows in
    let lt : i < length rows = place_within (row_eq row) rows h in
    let same : row ≡ get_or rows i row = (row_eq-Decides row (get_or rows i row)).0 (passes_at_first (row_eq row) rows row lt) in
    omega (arith, weigh-remove f rows i row lt, ap f same)

-- two tests, in either order
swap_tests : (a b : Bool) (n : ℕ) → cond a (cond b n 0) 0 ≡ cond b (cond a n 0) 0
swap_tests a b n = elim a as (λ a. cond a (cond b n 0) 0 ≡ cond b (cond a n 0) 0) [
  | true ↦ refl
  | false ↦ elim b as (λ b. 0 ≡ cond b 0 0) [ true ↦ refl | false ↦ refl ]
]

swap_else : (a b : Bool) (n : ℕ) → cond a (cond b 0 n) 0 ≡ cond b 0 (cond a n 0)
swap_else a b n = elim a as (λ a. cond a (cond b 0 n) 0 ≡ cond b 0 (cond a n 0)) [
  | true ↦ refl
  | false ↦ elim b as (λ b. 0 ≡ cond b 0 0) [ true ↦ refl | false ↦ refl ]
]

pub come-filtered : (f : Row → ℕ) (p : Row → Bool) (ms : List Signed) → come f (filtered p ms) ≡ come (λ r. cond (p r) (f r) 0) ms
come-filtered f p ms =
    weigh-filter (λ m. cond m.up (f m.row) 0) (λ m. p m.row) ms
    ∙ weigh-same _ _ (λ m. swap_tests (p m.row) m.up (f m.row)) ms

pub go-filtered : (f : Row → ℕ) (p : Row → Bool) (ms : List Signed) → go f (filtered p ms) ≡ go (λ r. cond (p r) (f r) 0) ms
go-filtered f p ms =
    weigh-filter (λ m. cond m.up 0 (f m.row)) (λ m. p m.row) ms
    ∙ weigh-same _ _ (λ m. swap_else (p m.row) m.up (f m.row)) ms

-- the moves that pass move the rows that pass
pub moves_filtered : (p : Row → Bool) (ms : List Signed) (xs ys : List Row) → MovesBag xs ms ys → MovesBag (filter p xs) (filtered p ms) (filter p ys)
moves_filtered p ms xs ys h f =
    omega (arith, weigh-filter f p xs, weigh-filter f p ys, come-filtered f p ms, go-filtered f p ms, h (λ r. cond (p r) (f r) 0))

-- some cells of the moves move these cells of the rows
pub moves_projected : (places : List ℕ) (ms : List Signed) (xs ys : List Row) → MovesBag xs ms ys → MovesBag (map (cells_at places) xs) (projected places ms) (map (cells_at places) ys)
moves_projected places ms xs ys h f =
    omega (
      arith,
      weigh-map f (cells_at places) xs,
      weigh-map f (cells_at places) ys,
      weigh-map (λ (m : Signed). cond m.up (f m.row) 0) (λ (m : Signed). signed m.up (cells_at places m.row)) ms,
      weigh-map (λ (m : Signed). cond m.up 0 (f m.row)) (λ (m : Signed). signed m.up (cells_at places m.row)) ms,
      h (λ r. f (cells_at places r)),
    )
