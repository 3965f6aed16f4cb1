-- The lines that a run prints.
use Rattle.std.specs.Prelude.{ℕ, List, [], ◌∷◌, ◌++◌, map, flat_map, length, Option, None, Some, codes, decimal}
use Rattle.ss_text.specs.Texts.{Text, Row}
use Rattle.tab_lines.specs.Spelling.{spell}
use Rattle.outside.specs.Effects.{Effect, Print}
use Rattle.flow_law.specs.declared.line.TableLine.{TableLine}
use Rattle.change_script.specs.Printed.{printed}

-- the row as a line, with its LF
abbrev pub says : Row → Effect
says row = Print (spell row ++ 10 ∷ [])

-- a refusal: its name and its fields
abbrev pub refuses : Row → Effect
refuses fields = says (codes "refused" ∷ fields)

-- a sync, and the number of files that it wrote or removed
abbrev pub prints_synced : ℕ → Effect
prints_synced count = says (codes "synced" ∷ decimal count ∷ [])

-- a group that opens, a change that it holds, and a group that is given up
abbrev pub prints_begun : Effect
prints_begun = says (codes "begun" ∷ [])

abbrev pub prints_held : Effect
prints_held = says (codes "held" ∷ [])

abbrev pub prints_aborted : Effect
prints_aborted = says (codes "aborted" ∷ [])

-- the reply to a change that a source sent under a number
abbrev pub prints_reply : Text → ℕ → Effect
prints_reply source number = says (codes "reply" ∷ source ∷ decimal number ∷ [])

-- the lines of a script, and how many they are
abbrev pub script_rows : List TableLine → List Row
script_rows lines = map printed lines ++ (codes "done" ∷ decimal (length lines) ∷ []) ∷ []

-- rows as lines, each with its LF
abbrev pub lines_text : List Row → List ℕ
lines_text rows = flat_map (λ row. spell row ++ 10 ∷ []) rows

-- a script, printed at once
abbrev pub prints_script : List TableLine → Effect
prints_script lines = Print (lines_text (script_rows lines))

-- lines that were applied, and the number of files that the sync behind them wrote or removed
abbrev pub applied_rows : ℕ → ℕ → List Row
applied_rows lines count = (codes "applied" ∷ decimal lines ∷ []) ∷ (codes "synced" ∷ decimal count ∷ []) ∷ []

abbrev pub prints_applied : ℕ → ℕ → Effect
prints_applied lines count = Print (lines_text (applied_rows lines count))

-- a folder that holds what is meant, with the number of its files
abbrev pub same_line : ℕ → List ℕ
same_line count = spell (codes "same" ∷ decimal count ∷ []) ++ 10 ∷ []

abbrev pub prints_same : ℕ → Effect
prints_same count = Print (same_line count)

-- the length of a file, `-` where it is missing
abbrev pub length_text : Option ℕ → Text
length_text None = codes "-"
length_text (Some n) = decimal n

-- a file that differs: its name, its length, and the length that is meant
abbrev pub prints_difference : Text → Option ℕ → Option ℕ → Effect
prints_difference file held meant = says (codes "differs" ∷ file ∷ length_text held ∷ length_text meant ∷ [])
