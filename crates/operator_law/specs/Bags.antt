-- Bags of rows, and how signed rows move them.
use Rattle.std.specs.Prelude.{ℕ, ◌+◌, ◌≡◌, ◌≤◌, Bool, cond, List, [], ◌∷◌, map, remove}
use Rattle.std.specs.List.{position_or_len}
use Rattle.ss_text.specs.Texts.{Row, row_eq}
use Rattle.operator_law.specs.declared.delta.Signed.{Signed}

-- what the elements of a list weigh together
abbrev pub weigh : {X : Type 0} → (X → ℕ) → List X → ℕ
weigh f [] = 0
weigh f (x ∷ xs) = f x + weigh f xs

-- a row with its sign, and rows that all have the same
abbrev pub signed : Bool → Row → Signed
signed up row = record { row = row; up = up }

abbrev pub all_signed : Bool → List Row → List Signed
all_signed up rows = map (signed up) rows

-- rows without the first that equals this one
abbrev pub less_first : Row → List Row → List Row
less_first row rows = remove rows (position_or_len (row_eq row) rows)

-- what the rows that come weigh together, and those that go
abbrev pub come : (Row → ℕ) → List Signed → ℕ
come f ms = weigh (λ m. cond m.up (f m.row) 0) ms

abbrev pub go : (Row → ℕ) → List Signed → ℕ
go f ms = weigh (λ m. cond m.up 0 (f m.row)) ms

-- whatever a row weighs, the rows before and those that come weigh as much as the rows after and those that go
abbrev pub MovesBag : List Row → List Signed → List Row → Type 0
MovesBag xs ms ys = (f : Row → ℕ) → weigh f xs + come f ms ≡ weigh f ys + go f ms

-- both have each element equally often
abbrev pub SameBag : {X : Type 0} → List X → List X → Type 0
SameBag {X} xs ys = (f : X → ℕ) → weigh f xs ≡ weigh f ys

-- one for each row that equals this one
abbrev pub is : Row → Row → ℕ
is r x = cond (row_eq r x) 1 0

-- each row is there as often as before, and once more for each time that it comes and once less for each that it goes
abbrev pub MovesCounts : List Row → List Signed → List Row → Type 0
MovesCounts xs ms ys = (r : Row) → weigh (is r) xs + come (is r) ms ≡ weigh (is r) ys + go (is r) ms

-- no row goes more often than it is there and comes
abbrev pub FitsBag : List Row → List Signed → Type 0
FitsBag xs ms = (r : Row) → go (is r) ms ≤ weigh (is r) xs + come (is r) ms
