-- The lines of feeds end no run with a refusal.
use Rattle.std.proofs.Common.{◌≡◌, ℕ, false, List, [], ◌∷◌, ◌++◌}
use Rattle.outside.specs.Effects.{Effect}
use Rattle.course.specs.Answering.{Continues, ending, follow}
use Rattle.course.specs.Course.{verdict_status, is_refused_status}
use Rattle.view_stages.specs.Open.{OpenValue}
use Rattle.upkeep_law.proofs.RefusedLemmas.{end_unrefused}
use Rattle.feed_answers.specs.declared.view.FeedView.{FeedView}
use Rattle.feed_answers.specs.Answers.{step, finish, at_first, answer, fed}

-- the end of the input refuses nothing, whatever the lines were
fed_unrefused : (lines : List (List ℕ)) (es : List Effect) (f : FeedView) → is_refused_status (verdict_status (ending finish (follow step lines (Continues es f))).status) ≡ false
fed_unrefused [] es f = end_unrefused f.view.refused
fed_unrefused (line ∷ lines) es f = fed_unrefused lines (es ++ (answer f line).effects) (fed f line)

pub feed_unrefused : (lines : List (List ℕ)) (es : List Effect) (o : OpenValue) → is_refused_status (verdict_status (ending finish (follow step lines (Continues es (at_first o)))).status) ≡ false
feed_unrefused lines es o = fed_unrefused lines es (at_first o)
