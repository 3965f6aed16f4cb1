-- A run of `journal` that was refused changed nothing.
use Rattle.std.proofs.Common.{◌≡◌, ℕ, true, false, List, Some, refl, ap}
use Rattle.outside.specs.Tree.{Tree}
use Rattle.outside.specs.Effects.{World, Contents}
use Rattle.course.specs.Answering.{course}
use Rattle.course.specs.declared.exit.Status.{Status}
use Rattle.course.specs.Course.{Finished, by_lines, verdict_status, is_refused_status}
use Rattle.course.specs.Idle.{Unchanged}
use Rattle.course.proofs.RefusedLemmas.{same_stored, not_so}
use Rattle.view_stages.specs.Stages.{DefinitionOrRefusal}
use Rattle.opened_view.specs.Answers.{end_view}
use Rattle.upkeep_law.proofs.RefusedLemmas.{end_unrefused}
use Rattle.journal_answers.specs.declared.view.JournalView.{JournalView}
use Rattle.journal_answers.specs.Answers.{step, finish}
use Rattle.journal_answers.specs.Opening.{opening}
use Rattle.journal_answers.proofs.JournalLemmas.{course_verdict, only_full}
use Rattle.journal_law.specs.Promises.{journal_at_first}
use Rattle.journal_law.proofs.OpeningLemmas.{opening_case}

-- its lines and its end refuse nothing
lines_unrefused : (lines : List (List ℕ)) (f : JournalView) → is_refused_status (verdict_status (course step finish f lines).status) ≡ false
lines_unrefused lines f =
    course_verdict step finish (λ v. is_refused_status (verdict_status v) ≡ false) (only_full (λ v. is_refused_status (verdict_status v) ≡ false) refl) (λ g. end_unrefused (end_view g.view).refused) f lines

module _ (t : Tree) (old new : World) (told : old.store.tree ≡ Some t) (s : Status) (refused : is_refused_status s ≡ true) (lines : List (List ℕ)) where
  pub journal_unchanged : (held : List ℕ) (d : DefinitionOrRefusal) → Finished ((by_lines step finish (opening t held d)).whole lines) old new s → Unchanged old new
  journal_unchanged held d = opening_case t held d (λ x. Finished ((by_lines step finish x).whole lines) old new s → Unchanged old new)
      (λ fields v halts e. same_stored t old new told s refused (ap (λ (x : Contents). x.stored) e.done)) (λ r e. not_so t old new told s refused _ e.status (lines_unrefused lines (journal_at_first r)))
