-- What the lines of an input say, and what is left of a folder when they were applied.
use Rattle.std.specs.Prelude.{ℕ, List, [], ◌∷◌, ◌++◌, Option, None, Some, Result, Ok, Err}
use Rattle.ss_text.specs.Texts.{Row}
use Rattle.tab_lines.specs.Spelling.{unspell}
use Rattle.flow_law.specs.declared.line.TableLine.{TableLine}
use Rattle.change_script.specs.declared.reading.ScriptLine.{ScriptLine}
use Rattle.change_script.specs.declared.reading.ScriptLine.TheVariants.{Change, Passed}
use Rattle.change_script.specs.declared.reading.ScriptFault.{ScriptFault}
use Rattle.change_script.specs.Reading.{script_line_of}

-- the script that is said: one line or none, and nothing where it is neither
abbrev pub said_by : Result ScriptLine ScriptFault → Option (List TableLine)
said_by (Ok (Change line)) = Some (line ∷ [])
said_by (Ok Passed) = Some []
said_by (Err f) = None

abbrev pub said_as : Result Row ℕ → Option (List TableLine)
said_as (Ok row) = said_by (script_line_of row)
said_as (Err at) = None

abbrev pub both : Option (List TableLine) → Option (List TableLine) → Option (List TableLine)
both (Some a) (Some b) = Some (a ++ b)
both (Some a) None = None
both None b = None

-- the script that the lines of an input say, in order; nothing where some line says neither a line of a script nor one that passes
abbrev pub script_said : List (List ℕ) → Option (List TableLine)
script_said [] = Some []
script_said (line ∷ lines) = both (said_as (unspell line)) (script_said lines)
