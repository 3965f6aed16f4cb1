-- What a printed line says.
use Rattle.std.specs.Prelude.{◌≡◌, ◌≢◌, ◌+◌, List, [], ◌∷◌, length, map, Result, Ok, Err, Option, find, ⊤}
use Rattle.std.specs.Option.{option_map_or}
use Rattle.ss_text.specs.Texts.{Text, Row, text_eq}
use Rattle.flow_law.specs.declared.line.TableLine.{TableLine}
use Rattle.flow_law.specs.declared.line.TableLine.TheVariants.{TableMinus, TablePlus, RowMinus, ColumnMinus, ColumnPlus, RowPlus, Cell}
use Rattle.change_script.specs.declared.verb.Verb.{Verb}
use Rattle.change_script.specs.declared.verb.Verb.TheVariants as verb
use Rattle.change_script.specs.declared.reading.ScriptLine.{ScriptLine}
use Rattle.change_script.specs.declared.reading.ScriptLine.TheVariants.{Change, Passed}
use Rattle.change_script.specs.declared.reading.ScriptFault.{ScriptFault}
use Rattle.change_script.specs.declared.reading.ScriptFault.TheVariants.{UnknownVerb, FieldCount, NoMemory}
use Rattle.change_script.specs.Printed.{verb_name}

abbrev pub all_verbs : List Verb
all_verbs =
    verb.TableMinus ∷ verb.TablePlus ∷ verb.RowMinus ∷ verb.ColumnMinus ∷ verb.ColumnPlus ∷ verb.RowPlus ∷ verb.Cell
    ∷ verb.Done ∷ verb.Refused ∷ verb.Synced ∷ verb.Begun ∷ verb.Held ∷ verb.Aborted ∷ []

-- the verb that a text spells
abbrev pub verb_of : Text → Option Verb
verb_of t = find (λ v. text_eq t (verb_name v)) all_verbs

abbrev pub Read : Type 0
Read = Result ScriptLine ScriptFault

-- a wrong number of fields behind a verb
abbrev pub wrong_count : Row → Read
wrong_count fields = Err (FieldCount (length fields + 1))

-- what the fields behind a verb say: a label alone
abbrev pub table_said : (Text → TableLine) → Row → Read
table_said line (label ∷ []) = Ok (Change (line label))
table_said line fields = wrong_count fields

-- a label and a column
abbrev pub column_said : (Text → Text → TableLine) → Row → Read
column_said line (label ∷ column ∷ []) = Ok (Change (line label column))
column_said line fields = wrong_count fields

-- a label and a key of one text or more
abbrev pub row_said : (Text → Row → TableLine) → Row → Read
row_said line (label ∷ first ∷ rest) = Ok (Change (line label (first ∷ rest)))
row_said line fields = wrong_count fields

-- a label, a column, a value, and such a key
abbrev pub cell_said : Row → Read
cell_said (label ∷ column ∷ value ∷ first ∷ rest) = Ok (Change (Cell label column value (first ∷ rest)))
cell_said fields = wrong_count fields

abbrev pub said_by : Verb → Row → Read
said_by verb.TableMinus fields = table_said TableMinus fields
said_by verb.TablePlus fields = table_said TablePlus fields
said_by verb.RowMinus fields = row_said RowMinus fields
said_by verb.ColumnMinus fields = column_said ColumnMinus fields
said_by verb.ColumnPlus fields = column_said ColumnPlus fields
said_by verb.RowPlus fields = row_said RowPlus fields
said_by verb.Cell fields = cell_said fields
said_by verb.Done fields = Ok Passed
said_by verb.Refused fields = Ok Passed
said_by verb.Synced fields = Ok Passed
said_by verb.Begun fields = Ok Passed
said_by verb.Held fields = Ok Passed
said_by verb.Aborted fields = Ok Passed

-- what a line of fields says; a line without fields has no verb
abbrev pub script_line_of : Row → Read
script_line_of [] = Err UnknownVerb
script_line_of (name ∷ fields) = option_map_or (λ v. said_by v fields) (verb_of name) (Err UnknownVerb)

-- the first fields of lines that say nothing of tables
abbrev pub passed_names : List Text
passed_names = map verb_name (verb.Done ∷ verb.Refused ∷ verb.Synced ∷ verb.Begun ∷ verb.Held ∷ verb.Aborted ∷ [])

-- the answer is this one, or there was no memory for it
abbrev pub IsAnswer : Read → Read → Type 0
IsAnswer expected (Err NoMemory) = ⊤
IsAnswer expected answer = answer ≡ expected

-- a key that a line has has a text
abbrev pub HasKeyText : TableLine → Type 0
HasKeyText (RowMinus label key) = key ≢ []
HasKeyText (RowPlus label key) = key ≢ []
HasKeyText (Cell label column value key) = key ≢ []
HasKeyText line = ⊤
