-- Things that bear names.
use Rattle.std.specs.Prelude.{◌≡◌, List, [], ◌∷◌, ◌++◌, map, find, Option}
use Rattle.std.specs.List.{flat_map}
use Rattle.ss_text.specs.Texts.{Row, row_eq}
use Rattle.operator_law.specs.declared.delta.Signed.{Signed}
use Rattle.operator_law.specs.Bags.{weigh, is, signed}
use Rattle.unite_op.specs.declared.named.Named.{Named}

-- the one that bears the change's names is moved, and all others stay
pub record MovesOne {T G : Type 0} (moves : T → G → T → Type 0) (xs : List (Named T)) (change : Named G) (ys : List (Named T)) : Type 0 where
  pub front : List (Named T)
  pub back : List (Named T)
  pub before : T
  pub after : T
  pub old : xs ≡ front ++ record { names = change.names; value = before } ∷ back
  pub now : ys ≡ front ++ record { names = change.names; value = after } ∷ back
  pub moved : moves before change.value after

-- rows behind names, and moves of them
abbrev pub rows_behind : Row → List Row → List Row
rows_behind names rows = map (λ row. names ++ row) rows

abbrev pub moves_behind : Row → List Signed → List Signed
moves_behind names ms = map (λ (m : Signed). signed m.up (names ++ m.row)) ms

-- the rows of all things, each behind its names
abbrev pub united : {T : Type 0} → (T → List Row) → List (Named T) → List Row
united value xs = flat_map (λ x. rows_behind x.names (value x.value)) xs

-- the things stand for the inputs, one by one
abbrev pub Stand : {S T : Type 0} → (S → T → Type 0) → List (Named S) → List (Named T) → Type 0
Stand stands [] [] = Unit {0}
Stand stands [] (x ∷ xs) = ⊥
Stand stands (i ∷ inputs) [] = ⊥
Stand stands (i ∷ inputs) (x ∷ xs) = (i.names ≡ x.names) × stands i.value x.value × Stand stands inputs xs

-- the first that bears the names
abbrev pub bearer : {T : Type 0} → Row → List (Named T) → Option (Named T)
bearer names xs = find (λ x. row_eq names x.names) xs

-- one bears the names, and only one
abbrev pub OneBears : {T : Type 0} → Row → List (Named T) → Type 0
OneBears names xs = weigh (λ x. is names x.names) xs ≡ 1
