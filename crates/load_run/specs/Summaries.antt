-- The line that tells a summary.
use Rattle.std.specs.Prelude.{ℕ, [], ◌∷◌, codes, decimal}
use Rattle.ss_text.specs.Texts.{Row}
use Rattle.load_run.specs.declared.summary.Summary.{Summary}

abbrev pub summary_row : ℕ → ℕ → Summary → Row
summary_row changes seed s =
    codes "load" ∷ decimal changes ∷ decimal seed
    ∷ codes "accepted" ∷ decimal s.accepted
    ∷ codes "refused" ∷ decimal s.refused
    ∷ codes "lines" ∷ decimal s.lines
    ∷ codes "rows" ∷ decimal s.table.rows
    ∷ codes "columns" ∷ decimal s.table.columns
    ∷ codes "bytes" ∷ decimal s.table.bytes ∷ []
