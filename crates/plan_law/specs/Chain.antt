-- A chain of joins: the rows that it lists, what its stages keep, and how a change walks through them.
use Rattle.std.specs.Prelude.{ℕ, ◌+◌, ◌≡◌, Bool, true, false, List, [], ◌∷◌, ◌++◌, filter, map}
use Rattle.ss_text.specs.Texts.{Row}
use Rattle.schema_delta.specs.Net.{SameNet, IsNet}
use Rattle.operator_law.specs.declared.delta.Signed.{Signed}
use Rattle.operator_law.specs.Bags.{MovesBag, SameBag}
use Rattle.join_delta.specs.Joined.{PairTest, joined, joined_moves, pairs_left, pairs_right}

-- what a stage does: which pairs it joins, and which joined rows pass
pub record Joint : Type 0 where
  pub keys : PairTest
  pub passes : Row → Bool

-- what it keeps of its two sides
pub record Sides : Type 0 where
  pub left : List Row
  pub right : List Row

-- how they are moved
pub record SideMoves : Type 0 where
  pub left : List Signed
  pub right : List Signed

abbrev pub joint_rows : Joint → List Row → List Row → List Row
joint_rows j xs ys = filter j.passes (joined j.keys xs ys)

abbrev pub joint_moves : Joint → Sides → List Signed → List Signed → List Signed
joint_moves j k ms ns = filter (λ (m : Signed). j.passes m.row) (joined_moves j.keys k.left k.right ms ns)

-- the rows that a chain lists: these, joined with the flat rows of one declaration after another
abbrev pub chain : List Joint → List Row → List (List Row) → List Row
chain [] xs yss = xs
chain (j ∷ js) xs [] = xs
chain (j ∷ js) xs (ys ∷ yss) = chain js (joint_rows j xs ys) yss

-- each stage keeps the rows of its two sides, in some order
abbrev pub Keeps : List Joint → List Row → List (List Row) → List Sides → Type 0
Keeps [] xs yss ks = Unit {0}
Keeps (j ∷ js) xs [] ks = ⊥
Keeps (j ∷ js) xs (ys ∷ yss) [] = ⊥
Keeps (j ∷ js) xs (ys ∷ yss) (k ∷ ks) = (SameBag xs k.left) × (SameBag ys k.right) × Keeps js (joint_rows j xs ys) yss ks

-- each declaration's flat rows are moved
abbrev pub EachMoved : List (List Row) → List (List Signed) → List (List Row) → Type 0
EachMoved [] [] [] = Unit {0}
EachMoved (ys ∷ yss) (ns ∷ nss) (zs ∷ zss) = MovesBag ys ns zs × EachMoved yss nss zss
EachMoved yss nss zss = ⊥

-- the walk of a change: these moves, those of the further declarations, the moves of each stage's sides, and the
-- moves that come out; what a stage moves is, in net, what moves the left side of the next
abbrev pub Walks : List Joint → List Sides → List Signed → List (List Signed) → List SideMoves → List Signed → Type 0
Walks [] ks ms nss ps out = ms ≡ out
Walks (j ∷ js) (k ∷ ks) ms (ns ∷ nss) (p ∷ ps) out =
    (p ≡ record { left = ms; right = ns }) × ((next : List Signed) × (SameNet (joint_moves j k ms ns) next) × Walks js ks next nss ps out)
Walks js ks ms nss ps out = ⊥

-- both sides of each stage are moved
abbrev pub Commits : List Sides → List SideMoves → List Sides → Type 0
Commits [] [] [] = Unit {0}
Commits (k ∷ ks) (p ∷ ps) (l ∷ ls) = (MovesBag k.left p.left l.left) × (MovesBag k.right p.right l.right) × Commits ks ps ls
Commits ks ps ls = ⊥

-- no side has a row that moves both ways
abbrev pub AreNet : List SideMoves → Type 0
AreNet [] = Unit {0}
AreNet (p ∷ ps) = (IsNet p.left) × (IsNet p.right) × AreNet ps

-- the pairs of a move of one side and a kept row of the other, in all stages
abbrev pub walk_pairs : List Joint → List Sides → List SideMoves → ℕ
walk_pairs [] ks ps = 0
walk_pairs (j ∷ js) [] ps = 0
walk_pairs (j ∷ js) (k ∷ ks) [] = 0
walk_pairs (j ∷ js) (k ∷ ks) (p ∷ ps) = pairs_right j.keys k.right p.left + pairs_left j.keys k.left p.right + walk_pairs js ks ps

-- the same joins with no test of the joined rows
abbrev pub untested : List Joint → List Joint
untested js = map (λ (j : Joint). record { keys = j.keys; passes = λ row. true }) js

-- no row weighs anything that begins with a row which a stage does not let pass
abbrev pub IsLate : (Row → ℕ) → List Joint → Type 0
IsLate g [] = Unit {0}
IsLate g (j ∷ js) = ((x w : Row) → j.passes x ≡ false → g (x ++ w) ≡ 0) × IsLate g js
