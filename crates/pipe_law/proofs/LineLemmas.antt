-- Rows that are printed as lines, and what they say where they are read.
use Rattle.std.proofs.Common.{◌≡◌, ◌<◌, ◌==◌, ◌∷◌, ◌++◌, ◌∙◌, [], ℕ, List, Bool, true, false, Option, Some, None, refl, ap, length, append_assoc}
use Rattle.std.specs.Prelude.{flat_map, if◌then◌else◌, Ok}
use Rattle.std.specs.List.{AllByRecursion}
use Rattle.ss_text.specs.Texts.{Text, Row}
use Rattle.tab_lines.specs.Lines.{has_feed, lines_of}
use Rattle.tab_lines.specs.Parts.{has}
use Rattle.tab_lines.specs.Spelling.{escaped, spell}
use Rattle.tab_lines.proofs.LineLemmas.{lines_first, none_in_both}
use Rattle.tab_lines.proofs.SpellingLemmas.{unspell-spell}
use Rattle.flow_law.specs.declared.line.TableLine.{TableLine}
use Rattle.change_script.specs.declared.reading.ScriptLine.TheVariants.{Passed}
use Rattle.change_script.specs.Printed.{printed}
use Rattle.change_script.specs.Reading.{HasKeyText, script_line_of}
use Rattle.change_script.proofs.ReadingLemmas.{line_read}
use Rattle.ss_print.specs.Printing.{lines_text}
use Rattle.plain_commands.specs.Scripts.{said_by, said_as, both, script_said}

-- the line of a row has no LF
one_clear : (b : ℕ) (rest : List ℕ) → has 10 (escaped b ++ rest) ≡ has 10 rest
one_clear b rest = by_tests (b == 9) (b == 10) (b == 92) refl
  where
    by_tests : (p q r : Bool) → (b == 10) ≡ q → has 10 ((if p then 92 ∷ 116 ∷ [] else if q then 92 ∷ 110 ∷ [] else if r then 92 ∷ 92 ∷ [] else b ∷ []) ++ rest) ≡ has 10 rest
    by_tests true q r e = refl
    by_tests false true r e = refl
    by_tests false false true e = refl
    by_tests false false false e = rw e refl

field_clear : (field : Text) → has_feed (flat_map escaped field) ≡ false
field_clear [] = refl
field_clear (b ∷ bs) = one_clear b (flat_map escaped bs) ∙ field_clear bs

row_clear : (row : Row) → has_feed (spell row) ≡ false
row_clear [] = refl
row_clear (field ∷ []) = field_clear field
row_clear (field ∷ next ∷ fields) = none_in_both 10 (flat_map escaped field) (9 ∷ spell (next ∷ fields)) (field_clear field) (row_clear (next ∷ fields))

abbrev pub HasFields : Row → Type 0
HasFields row = 0 < length row

-- the script that rows say, and the lines of their text
abbrev pub rows_said : List Row → Option (List TableLine)
rows_said [] = Some []
rows_said (row ∷ rows) = both (said_by (script_line_of row)) (rows_said rows)

pub text_said : (rows : List Row) → AllByRecursion HasFields rows → script_said (lines_of (lines_text rows)) ≡ rows_said rows
text_said [] h = refl
text_said (row ∷ rows) h =
    ap script_said (ap lines_of (append_assoc (spell row) (10 ∷ []) (lines_text rows)) ∙ lines_first (spell row) (lines_text rows) (row_clear row))
    ∙ ap (λ r. both (said_as r) (script_said (lines_of (lines_text rows)))) (unspell-spell row h.0)
    ∙ ap (both (said_by (script_line_of row))) (text_said rows h.1)

-- a row that says nothing, and the row of a line, before others
pub passed_first : (row : Row) (rows : List Row) → script_line_of row ≡ Ok Passed → rows_said (row ∷ rows) ≡ rows_said rows
passed_first row rows e = ap (λ r. both (said_by r) (rows_said rows)) e ∙ with_none (rows_said rows)
  where
    with_none : (o : Option (List TableLine)) → both (Some []) o ≡ o
    with_none None = refl
    with_none (Some script) = refl

pub line_first : (line : TableLine) (rows : List Row) (script : List TableLine) → HasKeyText line → rows_said rows ≡ Some script → rows_said (printed line ∷ rows) ≡ Some (line ∷ script)
line_first line rows script key e = ap (λ r. both (said_by r) (rows_said rows)) (line_read line key) ∙ ap (both (Some (line ∷ []))) e
