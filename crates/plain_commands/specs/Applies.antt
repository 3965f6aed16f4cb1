-- What `apply` does, and what it leaves.
use Rattle.std.specs.Prelude.{◌≡◌, ◌||◌, ℕ, List, [], ◌∷◌, length, map, filter, is_some, Some, Ok, Err}
use Rattle.ss_text.specs.Texts.{Text, text_cmp, is_in}
use Rattle.ss_text.specs.Ascending.{ascending}
use Rattle.outside.specs.Streams.{with_bytes}
use Rattle.outside.specs.Tree.{Tree}
use Rattle.outside.specs.Effects.{World}
use Rattle.course.specs.declared.status.Verdict.TheVariants as verdict
use Rattle.course.specs.Answering.{Reply, Finishes}
use Rattle.flow_law.specs.declared.line.TableLine.{TableLine}
use Rattle.flow_law.specs.Lines.{label_of}
use Rattle.flow_law.specs.Tables.{TablesValue, labels_of, table_of}
use Rattle.change_script.specs.Applied.{applied}
use Rattle.view_meaning.specs.Meaning.{shape_of}
use Rattle.view_folder.specs.Held.{held}
use Rattle.view_folder.specs.Sync.{HoldsNamed}
use Rattle.ss_print.specs.Printing.{refuses, lines_text, applied_rows}
use Rattle.plain_commands.specs.Applying.{ApplyState, opening}
use Rattle.plain_commands.specs.Scripts.{script_said}
use Rattle.view_stages.specs.Stages.{DefinitionOrRefusal, Accepted}
use Rattle.view_stages.specs.Opened.{folder_of}

-- the definition is refused, or the tables of the view's folder are read
abbrev pub apply_opening : Tree → DefinitionOrRefusal → Reply ApplyState
apply_opening t (Err fields) = Finishes (refuses fields ∷ []) verdict.BadDefinition
apply_opening t (Ok a) = opening a.query.view_db (shape_of a.query) t

-- the labels that lines of a script name
abbrev pub named_by : List TableLine → List Text
named_by script = ascending text_cmp (map label_of script)

-- of these labels, how many have a table after a script, or had one before it
abbrev pub named_count : TablesValue → TablesValue → List Text → ℕ
named_count before after labels = length (filter (λ label. is_some (table_of after label) || is_in label (labels_of before)) labels)

-- a script was applied: the definition was accepted, the view's folder holds tables, the lines of the input say a script, each line of which applied in turn; the files of the labels that it names are those of the tables after it, every other file is as it was, and the two numbers were printed
pub record IsApplied (d : DefinitionOrRefusal) (t : Tree) (lines : List (List ℕ)) (old new : World) : Type 0 where
  pub accepted : Accepted
  pub defined : d ≡ Ok accepted
  pub before : TablesValue
  pub holds : held (shape_of accepted.query) t (folder_of accepted) ≡ Ok before
  pub script : List TableLine
  pub says : script_said lines ≡ Some script
  pub after : TablesValue
  pub applies : applied (shape_of accepted.query) before script ≡ Ok after
  pub tree : Tree
  pub told : new.store.tree ≡ Some tree
  pub files : HoldsNamed (folder_of accepted) (shape_of accepted.query) after (named_by script) t tree
  pub printed : new.output.held ≡ with_bytes (lines_text (applied_rows (length script) (named_count before after (named_by script)))) old.output.held
