-- Effects that print the lines of a script, and lines that say nothing of tables.
use Rattle.std.proofs.Common.{◌≡◌, ◌∷◌, ◌++◌, ◌∙◌, [], ℕ, List, Some, None, refl, sym, ap, length, map, append_assoc, append-nil, arith}
use Rattle.std.specs.Prelude.{codes, decimal, Ok}
use Rattle.std.specs.List.{AllByRecursion}
use Rattle.std.specs.Option.{option_map_or}
use Rattle.std.proofs.lemmas.Grind.{flat_map-append}
use Rattle.ss_text.specs.Texts.{Text, Row}
use Rattle.tab_lines.specs.Lines.{lines_of}
use Rattle.tab_lines.specs.Spelling.{spell}
use Rattle.outside.specs.Effects.{Effect, Write, Remove, Replace, Print}
use Rattle.flow_law.specs.declared.line.TableLine.{TableLine}
use Rattle.flow_law.specs.declared.line.TableLine.TheVariants.{TableMinus, TablePlus, RowMinus, ColumnMinus, ColumnPlus, RowPlus, Cell}
use Rattle.flow_law.specs.declared.shape.Shape.{Shape}
use Rattle.flow_law.specs.Tables.{TablesValue, table_of}
use Rattle.change_script.specs.declared.reading.ScriptLine.TheVariants.{Passed}
use Rattle.change_script.specs.Printed.{printed}
use Rattle.change_script.specs.Reading.{HasKeyText, script_line_of}
use Rattle.view_folder.specs.declared.file.File.{File}
use Rattle.view_folder.specs.Files.{file_name, other_names}
use Rattle.view_folder.specs.Sync.{written, removed, tables_first, label_synced, later_sync}
use Rattle.view_folder.specs.TableFiles.{table_text}
use Rattle.source_law.proofs.AfterLemmas.{Silent}
use Rattle.source_law.specs.Synced.{saving}
use Rattle.ss_print.specs.Printing.{says, lines_text, script_rows, prints_script, prints_synced}
use Rattle.plain_commands.specs.Scripts.{script_said}
use Rattle.opened_view.specs.Answers.{Answer, Said, Tells, Scripts, Syncs, answer, syncing, end_effects, end_view, finish}
use Rattle.view_stages.specs.Syncs.{sync_effects}
use Rattle.view_stages.specs.Open.{OpenValue}
use Rattle.view_stages.specs.Opening.{opening_effects}
use Rattle.upkeep_law.specs.Promises.{printed_by}
use Rattle.opened_view.proofs.AnswerCases.{answer_case, end_case}
use Rattle.upkeep_law.proofs.KeptLemmas.{printed_append}
use Rattle.view_session.specs.Session.{tables_of, lines_to, working}
use Rattle.schema_model.specs.Changes.{after}
use Rattle.pipe_law.proofs.LineLemmas.{HasFields, rows_said, text_said, passed_first, line_first}

-- what effects print is lines, which say this script
pub record IsTelling (es : List Effect) (script : List TableLine) : Type 0 where
  pub rows : List Row
  pub fields : AllByRecursion HasFields rows
  pub text : printed_by es ≡ lines_text rows
  pub said : (rest : List Row) (more : List TableLine) → rows_said rest ≡ Some more → rows_said (rows ++ rest) ≡ Some (script ++ more)

pub telling_says : (es : List Effect) (script : List TableLine) → IsTelling es script → script_said (lines_of (printed_by es)) ≡ Some script
telling_says es script h =
    ap (λ (bytes : List ℕ). script_said (lines_of bytes)) h.text ∙ text_said h.rows h.fields ∙ ap rows_said (sym (append-nil h.rows)) ∙ h.said [] [] refl ∙ ap Some (append-nil script)

-- one after the other
both_have : (xs ys : List Row) → AllByRecursion HasFields xs → AllByRecursion HasFields ys → AllByRecursion HasFields (xs ++ ys)
both_have [] ys h k = k
both_have (x ∷ xs) ys h k = (h.0, both_have xs ys h.1 k)

pub telling_more : (es fs : List Effect) (script more : List TableLine) → IsTelling es script → IsTelling fs more → IsTelling (es ++ fs) (script ++ more)
telling_more es fs script more h k = record {
  rows = h.rows ++ k.rows;
  fields = both_have h.rows k.rows h.fields k.fields;
  text = printed_append es fs ∙ ap (λ (bytes : List ℕ). bytes ++ printed_by fs) h.text ∙ ap (λ (bytes : List ℕ). lines_text h.rows ++ bytes) k.text ∙ sym (flat_map-append (λ (row : Row). spell row ++ 10 ∷ []) h.rows k.rows);
  said = λ rest last e. ap rows_said (append_assoc h.rows k.rows rest) ∙ h.said (k.rows ++ rest) (more ++ last) (k.said rest last e) ∙ ap Some (sym (append_assoc script more last));
}

-- nothing is printed
silent_text : (es : List Effect) → AllByRecursion Silent es → printed_by es ≡ []
silent_text [] h = refl
silent_text (Write folder file bytes ∷ es) h = silent_text es h.1
silent_text (Remove folder file ∷ es) h = silent_text es h.1
silent_text (Replace edits ∷ es) h = silent_text es h.1
silent_text (Print bytes ∷ es) h = absurd h.0

telling_silent : (es : List Effect) → AllByRecursion Silent es → IsTelling es []
telling_silent es h = record { rows = []; fields = tt; text = silent_text es h; said = λ rest more e. e }

-- a row that says nothing, and a script
telling_row : (name : Text) (fields : Row) → script_line_of (name ∷ fields) ≡ Ok Passed → IsTelling (says (name ∷ fields) ∷ []) []
telling_row name fields passes = record { rows = (name ∷ fields) ∷ []; fields = (omega arith, tt); text = refl; said = λ rest more e. passed_first (name ∷ fields) rest passes ∙ e }

line_has : (line : TableLine) → HasFields (printed line)
line_has (TableMinus label) = omega arith
line_has (TablePlus label) = omega arith
line_has (RowMinus label key) = omega arith
line_has (ColumnMinus label column) = omega arith
line_has (ColumnPlus label column) = omega arith
line_has (RowPlus label key) = omega arith
line_has (Cell label column value key) = omega arith

lines_have : (lines : List TableLine) (last : Row) → HasFields last → AllByRecursion HasFields (map printed lines ++ last ∷ [])
lines_have [] last h = (h, tt)
lines_have (line ∷ lines) last h = (line_has line, lines_have lines last h)

lines_said : (lines : List TableLine) (last : Row) (rest : List Row) (more : List TableLine) → script_line_of last ≡ Ok Passed → AllByRecursion HasKeyText lines → rows_said rest ≡ Some more
    → rows_said ((map printed lines ++ last ∷ []) ++ rest) ≡ Some (lines ++ more)
lines_said [] last rest more passes h e = passed_first last rest passes ∙ e
lines_said (line ∷ lines) last rest more passes h e = line_first line ((map printed lines ++ last ∷ []) ++ rest) (lines ++ more) h.0 (lines_said lines last rest more passes h.1 e)

telling_script : (lines : List TableLine) → AllByRecursion HasKeyText lines → IsTelling (prints_script lines ∷ []) lines
telling_script lines h =
    let done : Row = codes "done" ∷ decimal (length lines) ∷ [] in
    record { rows = script_rows lines; fields = lines_have lines done (omega arith); text = append-nil (lines_text (script_rows lines)); said = λ rest more e. lines_said lines done rest more refl h e }

-- the opening sync
written_silent : (folder : Text) (files : List File) → AllByRecursion Silent (written folder files)
written_silent folder [] = tt
written_silent folder (f ∷ fs) = (tt, written_silent folder fs)

removed_silent : (folder : Text) (names : List Text) → AllByRecursion Silent (removed folder names)
removed_silent folder [] = tt
removed_silent folder (n ∷ ns) = (tt, removed_silent folder ns)

telling_synced : (count : ℕ) → IsTelling (prints_synced count ∷ []) []
telling_synced count = telling_row (codes "synced") (decimal count ∷ []) refl

pub opening_tells : (folder : Text) (files : List File) (names : List Text) → IsTelling (opening_effects folder files names) []
opening_tells folder files names =
    telling_more (written folder files ++ removed folder (other_names files names)) (prints_synced _ ∷ []) [] []
    (telling_more (written folder files) (removed folder (other_names files names)) [] [] (telling_silent (written folder files) (written_silent folder files)) (telling_silent (removed folder (other_names files names)) (removed_silent folder (other_names files names))))
    (telling_synced _)

-- a later one
labels_silent : (folder : Text) (shape : Shape) (ts : TablesValue) (labels : List Text) → AllByRecursion Silent (map (label_synced folder shape ts) labels)
labels_silent folder shape ts [] = tt
labels_silent folder shape ts (l ∷ ls) =
    (elim (table_of ts l) as (λ o. Silent (option_map_or (λ t. Write folder (file_name l) (table_text shape t)) o (Remove folder (file_name l)))) [ None ↦ tt | Some t ↦ tt ], labels_silent folder shape ts ls)

later_silent : (folder : Text) (shape : Shape) (ts : TablesValue) (labels : List Text) → AllByRecursion Silent (later_sync folder shape ts labels)
later_silent folder shape ts labels = labels_silent folder shape ts (tables_first ts labels)

sync_tells : (o : OpenValue) → IsTelling (sync_effects o) []
sync_tells o =
    telling_more _ _ [] [] (telling_silent (saving o.session) (tt, tt))
    (telling_more _ _ [] [] (telling_silent _ (later_silent _ _ (tables_of o.session) o.session.changed.labels)) (telling_synced _))

-- the lines of the script that is said, where one is
abbrev pub lines_in : Said → List TableLine
lines_in Tells = []
lines_in (Scripts lines) = lines
lines_in Syncs = []

-- the answer to a line
abbrev TellsAll : Answer → Type 0
TellsAll a = AllByRecursion HasKeyText (lines_in a.said) → IsTelling a.effects (lines_in a.said)

pub answer_tells : (o : OpenValue) (line : List ℕ) → TellsAll (answer o line)
answer_tells o = answer_case syncing o TellsAll (record {
  refused = λ fields h. telling_row (codes "refused") fields refl;
  gave_up = λ fields h. telling_row (codes "refused") fields refl;
  began = λ h. telling_row (codes "begun") [] refl;
  kept = λ g well fits h. telling_row (codes "held") [] refl;
  aborted = λ h. telling_row (codes "aborted") [] refl;
  changed = λ g none well fits unrefused h. telling_script (lines_to o.session (after o.session.catalogue g)) h;
  committed = λ unrefused h. telling_script (lines_to o.session (working o.session)) h;
  synced = λ h. sync_tells o;
})

-- the end of the input
pub end_tells : (o : OpenValue) → IsTelling (finish o).effects []
end_tells o =
    telling_more (end_effects o) (sync_effects (end_view o)) [] [] (end_case o (λ es v. IsTelling es []) (telling_silent [] tt) (λ fields. telling_row (codes "refused") fields refl)) (sync_tells (end_view o))
