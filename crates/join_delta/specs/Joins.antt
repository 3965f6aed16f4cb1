-- What contracts see of a join.
use Rattle.std.specs.Prelude.{ℕ, List, Option}
use Rattle.ss_text.specs.Texts.{Row}
use Rattle.operator_law.specs.declared.delta.Signed.{Signed}

-- the positions of both keys, the kept rows of both sides, and the change that waits
pub record JoinValue : Type 0 where
  pub left_key : List ℕ
  pub right_key : List ℕ
  pub left : List Row
  pub right : List Row
  pub waiting : Option (List Signed × List Signed)
