-- What `load` does.
use Rattle.std.specs.Prelude.{◌≡◌, ℕ, [], ◌∷◌, ◌++◌}
use Rattle.outside.specs.Streams.{with_bytes}
use Rattle.tab_lines.specs.Spelling.{spell}
use Rattle.outside.specs.Effects.{World}
use Rattle.course.specs.Answering.{Ending}
use Rattle.course.specs.declared.status.Verdict.TheVariants as verdict
use Rattle.ss_print.specs.Printing.{says}
use Rattle.load_run.specs.Runs.{summary_of}
use Rattle.load_run.specs.Summaries.{summary_row}

-- the line that tells what came of it is printed
abbrev pub loaded : ℕ → ℕ → Ending
loaded changes seed = record { effects = says (summary_row changes seed (summary_of changes seed)) ∷ []; status = verdict.Done }

-- just that line was printed
pub record IsLoaded (changes seed : ℕ) (old new : World) : Type 0 where
  pub printed : new.output.held ≡ with_bytes (spell (summary_row changes seed (summary_of changes seed)) ++ 10 ∷ []) old.output.held
