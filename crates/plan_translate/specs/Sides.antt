-- Joins, before and after their sides are moved.
use Rattle.std.specs.Prelude.{◌≡◌, List, [], ◌∷◌}
use Rattle.ss_text.specs.Texts.{Row}
use Rattle.operator_law.specs.declared.delta.Signed.{Signed}
use Rattle.operator_law.specs.Bags.{SameBag, MovesBag}
use Rattle.join_delta.specs.Joins.{JoinValue}

-- the same keys
pub record SameKeys (a b : JoinValue) : Type 0 where
  pub left : b.left_key ≡ a.left_key
  pub right : b.right_key ≡ a.right_key

-- and the same rows, in some order
pub record LikeJoin (a b : JoinValue) : Type 0 where
  pub keys : SameKeys a b
  pub left : SameBag a.left b.left
  pub right : SameBag a.right b.right

-- there are rows to which these moves take both sides
pub record CanMove (j : JoinValue) (m : List Signed × List Signed) : Type 0 where
  pub left_rows : List Row
  pub right_rows : List Row
  pub left : MovesBag j.left m.0 left_rows
  pub right : MovesBag j.right m.1 right_rows

-- both sides have the rows to which these moves take them
pub record Moved (a : JoinValue) (m : List Signed × List Signed) (b : JoinValue) : Type 0 where
  pub keys : SameKeys a b
  pub sides : (left right : List Row) → MovesBag a.left m.0 left → MovesBag a.right m.1 right → SameBag left b.left × SameBag right b.right

-- so each of some joins
abbrev pub AllMoved : List JoinValue → List (List Signed × List Signed) → List JoinValue → Type 0
AllMoved [] [] [] = Unit {0}
AllMoved (a ∷ xs) (m ∷ ms) (b ∷ ys) = Moved a m b × AllMoved xs ms ys
AllMoved xs ms ys = ⊥
