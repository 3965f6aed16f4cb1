-- Script lines that are applied to the tables of a view folder.
use Rattle.std.specs.Prelude.{ℕ, ◌+◌, ◌||◌, List, [], ◌∷◌, length, filter, is_some, Result, Ok, Err}
use Rattle.ss_text.specs.Texts.{Text, Row, text_cmp, is_in}
use Rattle.ss_text.specs.Ascending.{with_element}
use Rattle.tab_lines.specs.Spelling.{unspell}
use Rattle.outside.specs.Tree.{Tree}
use Rattle.outside.specs.Effects.{Replace}
use Rattle.course.specs.declared.status.Verdict.TheVariants as verdict
use Rattle.course.specs.Answering.{Reply, Continues, Finishes, Ending}
use Rattle.flow_law.specs.declared.shape.Shape.{Shape}
use Rattle.flow_law.specs.declared.line.TableLine.{TableLine}
use Rattle.flow_law.specs.Lines.{label_of}
use Rattle.flow_law.specs.Tables.{TablesValue, labels_of, table_of}
use Rattle.change_script.specs.declared.applying.ApplyFault.{ApplyFault}
use Rattle.change_script.specs.declared.reading.ScriptLine.{ScriptLine}
use Rattle.change_script.specs.declared.reading.ScriptLine.TheVariants.{Change, Passed}
use Rattle.change_script.specs.declared.reading.ScriptFault.{ScriptFault}
use Rattle.change_script.specs.Reading.{script_line_of}
use Rattle.change_script.specs.Applied.{applied_line}
use Rattle.view_folder.specs.declared.held.TablesFault.{TablesFault}
use Rattle.view_folder.specs.Files.{view_folder}
use Rattle.view_folder.specs.Held.{held}
use Rattle.view_folder.specs.Sync.{later_edits}
use Rattle.ss_print.specs.Printing.{refuses, prints_applied}
use Rattle.plain_commands.specs.Refused.{escape_fields, script_fields, apply_fields, tables_fields}

-- the tables of a view folder: the view's database and form, the labels of the tables that the folder holds, the tables after the lines so far, the labels that these lines named, ascending, and how many lines there were
pub record ApplyState : Type 0 where
  pub view_db : Text
  pub shape : Shape
  pub before : List Text
  pub tables : TablesValue
  pub named : List Text
  pub lines : ℕ

-- no line was applied yet
abbrev pub just_read : Text → Shape → TablesValue → ApplyState
just_read view_db shape ts = record { view_db = view_db; shape = shape; before = labels_of ts; tables = ts; named = []; lines = 0 }

-- one line more, and the tables after it
abbrev pub with_line : ApplyState → TableLine → TablesValue → ApplyState
with_line s line ts = record s { tables = ts; named = with_element text_cmp (label_of line) s.named; lines = s.lines + 1 }

-- a line is applied, or refused with these fields
abbrev pub by_applying : ApplyState → TableLine → Result TablesValue ApplyFault → Result ApplyState Row
by_applying s line (Ok ts) = Ok (with_line s line ts)
by_applying s line (Err f) = Err (apply_fields line f)

-- a row says a line of a script, or nothing, or neither
abbrev pub by_reading : ApplyState → Row → Result ScriptLine ScriptFault → Result ApplyState Row
by_reading s row (Ok Passed) = Ok s
by_reading s row (Ok (Change line)) = by_applying s line (applied_line s.shape s.tables line)
by_reading s row (Err f) = Err (script_fields row f)

-- a line spells a row, or has a backslash that spells nothing
abbrev pub by_spelling : ApplyState → Result Row ℕ → Result ApplyState Row
by_spelling s (Err at) = Err (escape_fields at)
by_spelling s (Ok row) = by_reading s row (script_line_of row)

-- the tables after a line of the input, or the fields of its refusal
abbrev pub taken : ApplyState → List ℕ → Result ApplyState Row
taken s line = by_spelling s (unspell line)

-- a refusal ends the run, and nothing was written
abbrev pub reply : Result ApplyState Row → Reply ApplyState
reply (Ok s) = Continues [] s
reply (Err fields) = Finishes (refuses fields ∷ []) verdict.BadCatalogue

abbrev pub step : ApplyState → List ℕ → Reply ApplyState
step s line = reply (taken s line)

-- of the labels that were named, how many have a table, or had one
abbrev pub synced_count : ApplyState → ℕ
synced_count s = length (filter (λ label. is_some (table_of s.tables label) || is_in label s.before) s.named)

-- the end of the input: the files of the labels that were named are synced at once
abbrev pub finish : ApplyState → Ending
finish s = record {
  effects = Replace (later_edits (view_folder s.view_db) s.shape s.tables s.named) ∷ prints_applied s.lines (synced_count s) ∷ [];
  status = verdict.Done;
}

-- the folder is refused, or its tables are read
abbrev pub by_folder : Text → Shape → Result TablesValue TablesFault → Reply ApplyState
by_folder view_db shape (Err f) = Finishes (refuses (tables_fields view_db f) ∷ []) verdict.BadCatalogue
by_folder view_db shape (Ok ts) = Continues [] (just_read view_db shape ts)

abbrev pub opening : Text → Shape → Tree → Reply ApplyState
opening view_db shape t = by_folder view_db shape (held shape t (view_folder view_db))
