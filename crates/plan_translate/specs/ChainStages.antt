-- Joins as the stages of a chain.
use Rattle.std.specs.Prelude.{true, List}
use Rattle.operator_law.specs.declared.delta.Signed.{Signed}
use Rattle.join_delta.specs.Joined.{matches}
use Rattle.join_delta.specs.Joins.{JoinValue}
use Rattle.plan_law.specs.Chain.{Joint, Sides, SideMoves}

abbrev pub joint_in : JoinValue → Joint
joint_in j = record { keys = matches j.left_key j.right_key; passes = λ row. true }

abbrev pub sides_in : JoinValue → Sides
sides_in j = record { left = j.left; right = j.right }

-- the moves of both sides, as a join takes them
abbrev pub side_moves : List Signed × List Signed → SideMoves
side_moves m = record { left = m.0; right = m.1 }
