-- The stages of a view with feeds behind its opening.
use Rattle.std.specs.Prelude.{ℕ, List, [], ◌∷◌}
use Rattle.outside.specs.Effects.{Effect}
use Rattle.course.specs.Answering.{Reply, Continues, Finishes}
use Rattle.view_stages.specs.Open.{OpenValue}
use Rattle.view_stages.specs.Syncs.{sync_effects}
use Rattle.upkeep_law.specs.Behind.{stages_by}
use Rattle.feed_answers.specs.declared.view.FeedView.{FeedView}
use Rattle.feed_answers.specs.Answers.{at_first, answers_to}
use Rattle.feed_law.specs.Promises.{view_behind}

-- the answer to each of these lines, and the sync at their end
abbrev pub feed_stages_behind : FeedView → List (List ℕ) → List (List Effect)
feed_stages_behind f lines = stages_by (answers_to f lines) (sync_effects (view_behind f lines))

-- before them the opening makes the first one, or prints a refusal
abbrev pub feed_stages_from : Reply OpenValue → List (List ℕ) → List (List Effect)
feed_stages_from (Continues es o) lines = es ∷ feed_stages_behind (at_first o) lines
feed_stages_from (Finishes es v) lines = es ∷ []
