-- The lines that a stack prints.
use Rattle.std.specs.Prelude.{ℕ, zero, suc, List, [], ◌∷◌, ◌++◌, map, length, sum_by, codes, decimal}
use Rattle.ss_text.specs.Texts.{Row}
use Rattle.outside.specs.Effects.{Effect, Print}
use Rattle.flow_law.specs.declared.line.TableLine.{TableLine}
use Rattle.change_script.specs.Printed.{printed}
use Rattle.ss_print.specs.Printing.{says, refuses, lines_text}

-- the number of a level
abbrev pub level_row : ℕ → Row
level_row level = codes "level" ∷ decimal level ∷ []

-- it stands before a refusal by a level above the lowest
abbrev pub names_level : ℕ → List Effect
names_level zero = []
names_level (suc zero) = []
names_level (suc (suc n)) = says (level_row (suc (suc n))) ∷ []

-- a refusal by a level
abbrev pub refuses_at : ℕ → Row → List Effect
refuses_at level fields = names_level level ++ refuses fields ∷ []

-- the lines of levels, each behind its number, the first being this one
abbrev pub rows_from : ℕ → List (List TableLine) → List Row
rows_from level [] = []
rows_from level (lines ∷ all) = level_row level ∷ map printed lines ++ rows_from (suc level) all

-- and how many lines they are together
abbrev pub line_count : List (List TableLine) → ℕ
line_count all = sum_by (λ (lines : List TableLine). length lines) all

abbrev pub stack_rows : List (List TableLine) → List Row
stack_rows all = rows_from 1 all ++ (codes "done" ∷ decimal (line_count all) ∷ []) ∷ []

-- all at once
abbrev pub prints_scripts : List (List TableLine) → Effect
prints_scripts all = Print (lines_text (stack_rows all))
