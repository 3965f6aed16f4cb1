-- Joins that are filled as the stages of a chain.
use Rattle.std.specs.Prelude.{◌≡◌, List, map, Vec, length}
use Rattle.std.specs.Global.{Global}
use Rattle.ss_text.specs.Texts.{Row}
use Rattle.join_delta.specs.Joins.{JoinValue}
use Rattle.plan_law.specs.Chain.{Joint, Keeps}
use Rattle.plan_translate.specs.ChainStages.{joint_in, sides_in}

-- the rows of each list
abbrev pub rows_in : List (Vec Row Global) → List (List Row)
rows_in vs = map (λ (v : Vec Row Global). v.items) vs

-- they are the joins of a chain, and keep what comes to each of them from these rows
pub record Fills (js : List Joint) (xs : List Row) (yss : List (List Row)) (filled : List JoinValue) : Type 0 where
  pub each : length yss ≡ length js
  pub joints : map joint_in filled ≡ js
  pub keeps : Keeps js xs yss (map sides_in filled)
