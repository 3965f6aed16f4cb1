-- A run of `apply` whose lines say a script that applies.
use Rattle.std.proofs.Common.{◌≡◌, ◌∷◌, ◌++◌, ◌∙◌, [], ℕ, List, Option, Some, None, refl, sym, ap, subst}
use Rattle.std.specs.Prelude.{unwrap_or, Result, Ok, Err}
use Rattle.ss_text.specs.Texts.{Text, Row}
use Rattle.outside.specs.Tree.{Tree}
use Rattle.outside.specs.Effects.{Effect}
use Rattle.tab_lines.specs.Spelling.{unspell}
use Rattle.course.specs.declared.status.Verdict.TheVariants as verdict
use Rattle.course.specs.Answering.{Reply, Continues, ending, follow, prefixed}
use Rattle.flow_law.specs.declared.line.TableLine.{TableLine}
use Rattle.flow_law.specs.declared.shape.Shape.{Shape}
use Rattle.flow_law.specs.Tables.{TablesValue}
use Rattle.change_script.specs.declared.applying.ApplyFault.{ApplyFault}
use Rattle.change_script.specs.declared.reading.ScriptFault.{ScriptFault}
use Rattle.change_script.specs.declared.reading.ScriptLine.{ScriptLine}
use Rattle.change_script.specs.declared.reading.ScriptLine.TheVariants.{Change, Passed}
use Rattle.change_script.specs.Applied.{applied, applied_behind, applied_line}
use Rattle.change_script.specs.Reading.{script_line_of}
use Rattle.view_folder.specs.declared.held.TablesFault.{TablesFault}
use Rattle.view_folder.specs.Files.{view_folder}
use Rattle.view_folder.specs.Held.{held}
use Rattle.plain_commands.specs.Applying.{ApplyState, by_applying, by_folder, by_reading, by_spelling, finish, just_read, opening, reply, step, with_line}
use Rattle.plain_commands.specs.Scripts.{both, said_as, said_by, script_said}
use Rattle.course.specs.Course.{by_lines}
use Rattle.pipe_law.proofs.ApplyLemmas.{stays_refused}

none_some : (script : List TableLine) → ◌≡◌ {A = Option (List TableLine)} None (Some script) → ⊥
none_some script e = cc e

error_ok : (f : ApplyFault) (ts : TablesValue) → ◌≡◌ {A = Result TablesValue ApplyFault} (Err f) (Ok ts) → ⊥
error_ok f ts e = cc e

same_script : (a b : List TableLine) → Some a ≡ Some b → a ≡ b
same_script a b e = ap (λ o. unwrap_or o a) e

with_none : (o : Option (List TableLine)) → both (Some []) o ≡ o
with_none None = refl
with_none (Some script) = refl

-- whether a run that has come so far ends with status 0 over the lines that are left
abbrev Ends : List (List ℕ) → Reply ApplyState → Type 0
Ends lines r = (ending finish (follow step lines r)).status ≡ verdict.Done

-- it does where these lines say a script that applies
abbrev EndsSo : List (List ℕ) → Type 0
EndsSo lines = (es : List Effect) (s : ApplyState) (script : List TableLine) (new : TablesValue) → script_said lines ≡ Some script → applied s.shape s.tables script ≡ Ok new → Ends lines (Continues es s)

-- and so it does with one line more
module _ (lines : List (List ℕ)) (rest : EndsSo lines) (es : List Effect) (s : ApplyState) (script : List TableLine) (new : TablesValue) (applies : applied s.shape s.tables script ≡ Ok new) where
  by_line : (line : TableLine) (o : Option (List TableLine)) (r : Result TablesValue ApplyFault) → script_said lines ≡ o → applied_line s.shape s.tables line ≡ r → both (Some (line ∷ [])) o ≡ Some script → Ends lines (prefixed es (reply (by_applying s line r)))
  by_line line None r said is e = absurd (none_some script e)
  by_line line (Some more) r said is e = by_result r is (subst (λ (x : List TableLine). applied s.shape s.tables x ≡ Ok new) (sym (same_script (line ∷ more) script e)) applies)
    where
      by_result : (r : Result TablesValue ApplyFault) → applied_line s.shape s.tables line ≡ r → applied s.shape s.tables (line ∷ more) ≡ Ok new → Ends lines (prefixed es (reply (by_applying s line r)))
      by_result (Ok ts) is h = rest (es ++ []) (with_line s line ts) more new said (ap (λ x. applied_behind s.shape x more) (sym is) ∙ h)
      by_result (Err f) is h = absurd (error_ok f new (sym (stays_refused s.shape f more) ∙ ap (λ x. applied_behind s.shape x more) (sym is) ∙ h))

  by_row : (row : Row) (r : Result ScriptLine ScriptFault) → both (said_by r) (script_said lines) ≡ Some script → Ends lines (prefixed es (reply (by_reading s row r)))
  by_row row (Ok Passed) e = rest (es ++ []) s script new (sym (with_none (script_said lines)) ∙ e) applies
  by_row row (Ok (Change line)) e = by_line line (script_said lines) (applied_line s.shape s.tables line) refl refl e
  by_row row (Err f) e = absurd (none_some script e)

  spelled : (r : Result Row ℕ) → both (said_as r) (script_said lines) ≡ Some script → Ends lines (prefixed es (reply (by_spelling s r)))
  spelled (Ok row) e = by_row row (script_line_of row) e
  spelled (Err at) e = absurd (none_some script e)

ends_so : (lines : List (List ℕ)) → EndsSo lines
ends_so [] es s script new e applies = refl
ends_so (line ∷ lines) es s script new e applies = spelled lines (ends_so lines) es s script new applies (unspell line) e

pub applying_ends : (view_db : Text) (shape : Shape) (t : Tree) (lines : List (List ℕ)) (script : List TableLine) (old new : TablesValue) → held shape t (view_folder view_db) ≡ Ok old → script_said lines ≡ Some script → applied shape old script ≡ Ok new
    → ((by_lines step finish (opening view_db shape t)).whole lines).status ≡ verdict.Done
applying_ends view_db shape t lines script old new is says applies =
    ap (λ (r : Result TablesValue TablesFault). ((by_lines step finish (by_folder view_db shape r)).whole lines).status) is ∙ ends_so lines [] (just_read view_db shape old) script new says applies
