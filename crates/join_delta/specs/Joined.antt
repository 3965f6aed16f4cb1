-- Joins of two bags of rows, and what changes of both sides move in them.
use Rattle.std.specs.Prelude.{ℕ, List, ◌++◌, Bool, cond, filter, map, not, length}
use Rattle.std.specs.List.{flat_map, sum_by}
use Rattle.ss_text.specs.Texts.{Row}
use Rattle.row_links.specs.Parts.{cells_at, same_cells}
use Rattle.operator_law.specs.declared.delta.Signed.{Signed}

-- a test of a row of the first side and one of the second
abbrev pub PairTest : Type 0
PairTest = Row → Row → Bool

-- their key cells are equal
abbrev pub matches : List ℕ → List ℕ → PairTest
matches left right x y = same_cells (cells_at right y) (cells_at left x)

-- all pairs that pass, each as one row
abbrev pub joined : PairTest → List Row → List Row → List Row
joined t xs ys = flat_map (λ x. map (λ y. x ++ y) (filter (t x) ys)) xs

-- what a move of the first side moves, over the rows of the second
abbrev pub with_right : PairTest → List Row → Signed → List Signed
with_right t ys m = map (λ y. record { row = m.row ++ y; up = m.up }) (filter (t m.row) ys)

-- what a move of the second side moves, over the rows of the first
abbrev pub with_left : PairTest → List Row → Signed → List Signed
with_left t xs m = map (λ x. record { row = x ++ m.row; up = m.up }) (filter (λ x. t x m.row) xs)

-- a pair of moves comes where both come or both go
abbrev pub signs : Bool → Bool → Bool
signs a b = cond a b (not b)

-- what a move of the first side moves, over the moves of the second
abbrev pub with_moves : PairTest → List Signed → Signed → List Signed
with_moves t ns m = map (λ n. record { row = m.row ++ n.row; up = signs m.up n.up }) (filter (λ n. t m.row n.row) ns)

-- the change of the join: its three parts
abbrev pub joined_moves : PairTest → List Row → List Row → List Signed → List Signed → List Signed
joined_moves t xs ys ms ns = flat_map (with_right t ys) ms ++ flat_map (with_left t xs) ns ++ flat_map (with_moves t ns) ms

-- how many pairs of a move of the first side and a row of the second pass
abbrev pub pairs_right : PairTest → List Row → List Signed → ℕ
pairs_right t ys ms = sum_by (λ m. length (filter (t m.row) ys)) ms

-- how many pairs of a move of the second side and a row of the first pass
abbrev pub pairs_left : PairTest → List Row → List Signed → ℕ
pairs_left t xs ns = sum_by (λ n. length (filter (λ x. t x n.row) xs)) ns
