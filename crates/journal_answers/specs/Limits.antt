-- At most how many steps an opened view with a journal takes for a line of its input.
use Rattle.std.specs.Prelude.{ℕ, List, Option}
use Rattle.opened_view.specs.Limits as limits
use Rattle.journal_answers.specs.declared.view.JournalView.{JournalView}

-- no more than the view by itself
abbrev pub limit : JournalView → List ℕ → Option ℕ
limit f line = limits.limit f.view line
