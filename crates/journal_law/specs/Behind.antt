-- The stages of a view with a journal.
use Rattle.std.specs.Prelude.{ℕ, List, [], ◌∷◌}
use Rattle.outside.specs.Effects.{Effect}
use Rattle.course.specs.Answering.{Reply, Continues, Finishes}
use Rattle.journal_answers.specs.declared.view.JournalView.{JournalView}
use Rattle.journal_answers.specs.Answers.{step, finish}

-- what a reply does is a stage, and more follow where the run goes on
abbrev pub then_more : (JournalView → List (List Effect)) → Reply JournalView → List (List Effect)
then_more more (Continues es f) = es ∷ more f
then_more more (Finishes es v) = es ∷ []

-- the answer to each of these lines, up to one for which the journal has no room, and the end: each makes one sync, or none
abbrev pub journal_stages_behind : JournalView → List (List ℕ) → List (List Effect)
journal_stages_behind f [] = (finish f).effects ∷ []
journal_stages_behind f (line ∷ lines) = then_more (λ g. journal_stages_behind g lines) (step f line)

-- before them the opening makes the first one, or prints a refusal
abbrev pub journal_stages_from : Reply JournalView → List (List ℕ) → List (List Effect)
journal_stages_from r lines = then_more (λ f. journal_stages_behind f lines) r
