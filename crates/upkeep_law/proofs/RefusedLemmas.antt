-- The lines of an input end no run with a refusal.
use Rattle.std.proofs.Common.{◌≡◌, ℕ, Bool, true, false, List, [], ◌∷◌, ◌++◌, refl}
use Rattle.std.specs.Prelude.{if◌then◌else◌}
use Rattle.outside.specs.Effects.{Effect}
use Rattle.course.specs.declared.status.Verdict.TheVariants as verdict
use Rattle.course.specs.Answering.{Continues, ending, follow}
use Rattle.course.specs.Course.{verdict_status, is_refused_status}
use Rattle.view_stages.specs.Open.{OpenValue}
use Rattle.opened_view.specs.Answers.{step, finish, answer, end_view}

pub end_unrefused : (b : Bool) → is_refused_status (verdict_status (if b then verdict.SomeRefused else verdict.Done)) ≡ false
end_unrefused true = refl
end_unrefused false = refl

-- the end of the input refuses nothing, whatever the lines were
pub lines_unrefused : (lines : List (List ℕ)) (es : List Effect) (o : OpenValue) → is_refused_status (verdict_status (ending finish (follow step lines (Continues es o))).status) ≡ false
lines_unrefused [] es o = end_unrefused (end_view o).refused
lines_unrefused (line ∷ lines) es o = lines_unrefused lines (es ++ (answer o line).effects) (answer o line).view
