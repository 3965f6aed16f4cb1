-- The records of a table: its rows as they stand in a file or in a relation.
use Rattle.std.specs.Prelude.{ℕ, List, ◌++◌, map, take, drop, Option, None, Some}
use Rattle.ss_text.specs.Texts.{Row}

-- a record: the constant columns' part, with the dynamic columns' part behind as many of them as the spot says
abbrev pub spliced : Option ℕ → Row → Row → Row
spliced None constant dynamic = constant
spliced (Some spot) constant dynamic = take spot constant ++ dynamic ++ drop spot constant

-- a record for each row
abbrev pub row_records : Option ℕ → List (Row × Row) → List Row
row_records spot rows = map (λ (r : Row × Row). spliced spot r.0 r.1) rows
