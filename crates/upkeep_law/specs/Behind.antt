-- The stages of a view behind its opening.
use Rattle.std.specs.Prelude.{ℕ, List, [], ◌∷◌}
use Rattle.outside.specs.Effects.{Effect}
use Rattle.course.specs.Answering.{Reply, Continues, Finishes}
use Rattle.view_stages.specs.Open.{OpenValue}
use Rattle.opened_view.specs.Answers.{Answer, answers_to, finish}
use Rattle.upkeep_law.specs.Lists.{view_after}

-- each answer, and the end: each makes one sync, or none
abbrev pub stages_by : List Answer → List Effect → List (List Effect)
stages_by [] end = end ∷ []
stages_by (a ∷ answers) end = a.effects ∷ stages_by answers end

-- the stages of a view behind its opening, over these lines
abbrev pub stages_behind : OpenValue → List (List ℕ) → List (List Effect)
stages_behind o lines = stages_by (answers_to o lines) (finish (view_after o (answers_to o lines))).effects

-- before them the opening makes the first one, or prints a refusal
abbrev pub stages_from : Reply OpenValue → List (List ℕ) → List (List Effect)
stages_from (Continues es o) lines = es ∷ stages_behind o lines
stages_from (Finishes es v) lines = es ∷ []
