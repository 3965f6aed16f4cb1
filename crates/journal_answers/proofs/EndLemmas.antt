-- What is done at the end of the input.
use Rattle.std.proofs.Common.{◌≡◌, subst}
use Rattle.std.specs.Prelude.{Result}
use Rattle.outside.specs.Effects.{World, contents, performed, Does}
use Rattle.outside.specs.declared.stop.Stop.{Stop}
use Rattle.view_stages.specs.Open.{OpenValue}
use Rattle.view_stages.specs.Syncs.{view_effects}
use Rattle.opened_view.specs.Answers.{end_effects, end_view}
use Rattle.opened_view.proofs.AnswerLemmas.{behind}
use Rattle.journal_answers.specs.declared.view.JournalView.{JournalView}
use Rattle.journal_answers.specs.Answers.{finish}

-- an open group was refused, and then the view's files were synced
pub ended_does : {A : Type 0} (f : JournalView) (p : OpenValue) (before mid v : World) (r : Result A Stop)
    → contents mid ≡ performed (end_effects f.view) (contents before) → p ≡ end_view f.view → Does (view_effects p) mid v r → Does (finish f).effects before v r
ended_does f p before mid v r h is d = behind (end_effects f.view) (view_effects (end_view f.view)) before mid v r h (subst (λ (x : OpenValue). Does (view_effects x) mid v r) is d)
