-- A run of `apply` that ended with the status 0 applied a script.
use Rattle.std.proofs.Common.{◌≡◌, ℕ, List, [], Option, Some, refl, sym, ap, ◌∙◌, subst, length, map, zero-add}
use Rattle.std.specs.Prelude.{Result, Ok, Err}
use Rattle.std.proofs.lemmas.List.{append-nil}
use Rattle.ss_text.specs.Texts.{Text, text_cmp}
use Rattle.ss_text.specs.Ascending.{ascending}
use Rattle.tab_lines.specs.Lines.{lines_of}
use Rattle.outside.specs.Tree.{Tree}
use Rattle.outside.specs.Effects.{Effect, World, contents, performed}
use Rattle.course.specs.declared.status.Verdict.{Verdict}
use Rattle.course.specs.declared.status.Verdict.TheVariants as verdict
use Rattle.course.specs.Answering.{course}
use Rattle.flow_law.specs.Lines.{label_of}
use Rattle.flow_law.specs.declared.shape.Shape.{Shape}
use Rattle.flow_law.specs.Tables.{TablesValue, labels_of}
use Rattle.view_meaning.specs.Meaning.{shape_of}
use Rattle.view_folder.specs.declared.held.TablesFault.{TablesFault}
use Rattle.view_folder.specs.Held.{held}
use Rattle.plain_commands.specs.Applying.{ApplyState, just_read, by_folder, step, finish}
use Rattle.plain_commands.specs.Left.{IsLeft}
use Rattle.plain_commands.proofs.CourseLemmas.{AllTook, done_took}
use Rattle.plain_commands.proofs.LeftLemmas.{is_left}
use Rattle.course.specs.declared.exit.Status.{Status}
use Rattle.course.specs.declared.exit.Status.TheVariants as status
use Rattle.course.specs.Course.{Finished, Did, by_lines, verdict_status, is_done_status}
use Rattle.course.proofs.RunLemmas.{done_finished}
use Rattle.view_stages.specs.Stages.{DefinitionOrRefusal, Accepted}
use Rattle.view_stages.specs.Opened.{folder_of}
use Rattle.plain_commands.specs.Applies.{IsApplied, apply_opening, named_by}

-- a state by its parts
state_is : (u : ApplyState) (view_db : Text) (shape : Shape) (before named : List Text) (lines : ℕ) → u.view_db ≡ view_db → u.shape ≡ shape → u.before ≡ before → u.named ≡ named → u.lines ≡ lines
    → u ≡ record { view_db = view_db; shape = shape; before = before; tables = u.tables; named = named; lines = lines }
state_is u view_db shape before named lines a b c d e =
    ap (λ (x : Text). record { view_db = x; shape = u.shape; before = u.before; tables = u.tables; named = u.named; lines = u.lines }) a
    ∙ ap (λ (x : Shape). record { view_db = view_db; shape = x; before = u.before; tables = u.tables; named = u.named; lines = u.lines }) b
    ∙ ap (λ (x : List Text). record { view_db = view_db; shape = shape; before = x; tables = u.tables; named = u.named; lines = u.lines }) c
    ∙ ap (λ (x : List Text). record { view_db = view_db; shape = shape; before = before; tables = u.tables; named = x; lines = u.lines }) d
    ∙ ap (λ (x : ℕ). record { view_db = view_db; shape = shape; before = before; tables = u.tables; named = named; lines = x }) e

number_done : (v : Verdict) → verdict_status v ≡ status.Done → v ≡ verdict.Done
number_done verdict.Done e = refl
number_done verdict.SomeRefused e = absurd (cc)
number_done verdict.Usage e = absurd (cc)
number_done verdict.BadDefinition e = absurd (cc)
number_done verdict.BadCatalogue e = absurd (cc)
number_done verdict.NoView e = absurd (cc)
number_done verdict.JournalFull e = absurd (cc)

module _ (t : Tree) (lines : List (List ℕ)) (old new : World) (s : Status) (told : old.store.tree ≡ Some t) (done : s ≡ status.Done) where
  script_applied : (a : Accepted) (d : DefinitionOrRefusal) → d ≡ Ok a → (before : TablesValue) → held (shape_of a.query) t (folder_of a) ≡ Ok before
      → (u : ApplyState) → AllTook (just_read a.query.view_db (shape_of a.query) before) lines u → contents new ≡ performed (finish u).effects (contents old) → IsApplied d t lines old new
  script_applied a d defined before holds u took h =
      let applies = took.applies in
      let last : ApplyState = record { view_db = a.query.view_db; shape = shape_of a.query; before = labels_of before; tables = u.tables; named = named_by took.script; lines = length took.script } in
      let is : u ≡ last =
      state_is u a.query.view_db (shape_of a.query) (labels_of before) (named_by took.script) (length took.script) applies.view_db applies.shape applies.before
      (applies.named [] refl ∙ ap (ascending text_cmp) (append-nil (map label_of took.script))) (applies.lines ∙ zero-add (length took.script)) in
      let left = subst (λ (x : ApplyState). IsLeft x t old new) is (is_left u t old new told h) in
      record {
        accepted = a;
        defined = defined;
        before = before;
        holds = holds;
        script = took.script;
        says = took.said;
        after = u.tables;
        applies = applies.tables;
        tree = left.tree;
        told = left.told;
        files = left.files;
        printed = left.printed;
      }

  by_held : (a : Accepted) (d : DefinitionOrRefusal) → d ≡ Ok a → (r : Result TablesValue TablesFault) → held (shape_of a.query) t (folder_of a) ≡ r → Finished ((by_lines step finish (by_folder a.query.view_db (shape_of a.query) r)).whole lines) old new s → IsApplied d t lines old new
  by_held a d defined (Err e) is f = absurd (cc (f.status))
  by_held a d defined (Ok before) is f =
      let s0 = just_read a.query.view_db (shape_of a.query) before in
      let took = done_took s0 lines (number_done (course step finish s0 lines).status (sym f.status ∙ done)) in
      script_applied a d defined before is took.0 took.1 (f.done ∙ ap (λ (es : List Effect). performed es (contents old)) took.2)

  finished_applied : (d : DefinitionOrRefusal) → Finished ((by_lines step finish (apply_opening t d)).whole lines) old new s → IsApplied d t lines old new
  finished_applied (Err fields) f = absurd (cc (f.status))
  finished_applied (Ok a) f = by_held a (Ok a) refl (held (shape_of a.query) t (folder_of a)) refl f

-- the run of `apply` by its course
pub did_apply : (name : Text) (t : Tree) (bytes : List ℕ) (d : DefinitionOrRefusal) (rest : Option (List ℕ)) (old new : World) (s : Status) → old.store.tree ≡ Some t → s ≡ status.Done → Did (by_lines step finish (apply_opening t d)) bytes rest old new s → IsApplied d t (lines_of bytes) old new
did_apply name t bytes d rest old new s told done h = finished_applied t (lines_of bytes) old new s told done d (done_finished (by_lines step finish (apply_opening t d)) bytes rest old new s (ap is_done_status done) h)
