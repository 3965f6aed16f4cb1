-- What the fields of a join are to each other.
use Rattle.std.specs.Prelude.{◌≡◌, [], ◌∷◌, Some}
use Rattle.std.specs.Option.{option_map}
use Rattle.join_delta.specs.declared.kept.Waiting.{Waiting}
use Rattle.join_delta.specs.declared.join.Join.TheInside.{Inside}
use Rattle.join_delta.specs.Joins.{JoinValue}
use Rattle.join_delta.specs.Ready.{IsReady}
use Rattle.join_delta.specs.Walks.{rows_of}

abbrev pub seen : Inside → JoinValue
seen j = record {
  left_key = j.left_key;
  right_key = j.right_key;
  left = rows_of j.left.live;
  right = rows_of j.right.live;
  waiting = option_map (λ w. w.of.value) j.waiting;
}

-- each side's rows are found by its key, and what waits is ready
pub record IsJoin (j : Inside) : Type 0 where
  pub left_found : j.left.keys ≡ j.left_key ∷ []
  pub right_found : j.right.keys ≡ j.right_key ∷ []
  pub ready : (w : Waiting) → j.waiting ≡ Some w → IsReady j.left j.right w
