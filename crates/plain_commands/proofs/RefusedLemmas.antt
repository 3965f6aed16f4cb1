-- A command that ended with a refusal changed nothing, and a folder that was said to differ does.
use Rattle.std.proofs.Common.{◌≡◌, ℕ, true, List, [], Option, None, Some, refl, sym, ap, ◌∙◌}
use Rattle.std.specs.Prelude.{Result, Ok, Err}
use Rattle.ss_text.specs.Texts.{Text, Row}
use Rattle.outside.specs.Tree.{Tree}
use Rattle.outside.specs.Effects.{Effect, World, Contents, contents, performed}
use Rattle.schema_model.specs.Catalogue.{CatalogueValue}
use Rattle.view_def.specs.Query.{Query}
use Rattle.view_folder.specs.declared.comparison.Comparison.{Comparison}
use Rattle.view_folder.specs.declared.comparison.Comparison.TheVariants as compared
use Rattle.flow_law.specs.declared.shape.Shape.{Shape}
use Rattle.flow_law.specs.Tables.{TablesValue}
use Rattle.view_meaning.specs.Meaning.{shape_of}
use Rattle.view_folder.specs.declared.held.TablesFault.{TablesFault}
use Rattle.view_folder.specs.Held.{held}
use Rattle.plain_commands.specs.Applying as applying
use Rattle.plain_commands.specs.Applying.{ApplyState, by_folder, just_read}
use Rattle.plain_commands.proofs.CourseLemmas.{halts_so}
use Rattle.view_folder.proofs.ComparisonLemmas.{holds_same}
use Rattle.course.specs.declared.status.Verdict.TheVariants as verdict
use Rattle.course.specs.Answering.{Reply, Continues, Finishes, ending, follow}
use Rattle.course.specs.declared.exit.Status.{Status}
use Rattle.course.specs.declared.exit.Status.TheVariants as status
use Rattle.course.specs.Course.{Finished, Did, by_lines, verdict_status, is_refused_status, unread}
use Rattle.course.specs.Idle.{Unchanged}
use Rattle.course.proofs.RunLemmas.{refused_finished}
use Rattle.course.proofs.RefusedLemmas.{same_stored, not_so}
use Rattle.view_stages.specs.Stages.{DefinitionOrRefusal, loaded_or_refused, refusal_of, files_of_view}
use Rattle.view_stages.specs.Opened.{folder_of}
use Rattle.view_stages.proofs.StageLemmas.{are_view_files}
use Rattle.plain_commands.specs.Checking.{checked}
use Rattle.plain_commands.specs.Verifying.{by_comparison, verified, verified_over, verified_view}
use Rattle.plain_commands.specs.Applies.{apply_opening}
use Rattle.plain_commands.specs.Promises.{Differs}

module _ (t : Tree) (old new : World) (told : old.store.tree ≡ Some t) (s : Status) (refused : is_refused_status s ≡ true) where
  pub check_unchanged : (d : DefinitionOrRefusal) → Finished (checked d) old new s → Unchanged old new
  check_unchanged (Err fields) f = same_stored t old new told s refused (ap (λ (x : Contents). x.stored) f.done)
  check_unchanged (Ok a) f = not_so t old new told s refused verdict.Done f.status refl

  compared_unchanged : (r : Comparison) → Finished (by_comparison r) old new s → Unchanged old new
  compared_unchanged (compared.Same n) f = not_so t old new told s refused verdict.Done f.status refl
  compared_unchanged (compared.Differs file held meant) f = same_stored t old new told s refused (ap (λ (x : Contents). x.stored) f.done)

  view_unchanged : (q : Query) (c : CatalogueValue) (r : Option Row) → Finished (verified_view t q c r) old new s → Unchanged old new
  view_unchanged q c (Some fields) f = same_stored t old new told s refused (ap (λ (x : Contents). x.stored) f.done)
  view_unchanged q c None f = compared_unchanged _ f

  over_unchanged : (q : Query) (r : Result CatalogueValue Row) → Finished (verified_over t q r) old new s → Unchanged old new
  over_unchanged q (Err fields) f = same_stored t old new told s refused (ap (λ (x : Contents). x.stored) f.done)
  over_unchanged q (Ok c) f = view_unchanged q c (refusal_of c q) f

  pub verify_unchanged : (d : DefinitionOrRefusal) → Finished (verified t d) old new s → Unchanged old new
  verify_unchanged (Err fields) f = same_stored t old new told s refused (ap (λ (x : Contents). x.stored) f.done)
  verify_unchanged (Ok a) f = over_unchanged a.query (loaded_or_refused t) f

  -- a script that is refused was printed about, and nothing was written
  apply_unchanged_over : (lines : List (List ℕ)) (view_db : Text) (shape : Shape) (r : Result TablesValue TablesFault) → Finished ((by_lines applying.step applying.finish (by_folder view_db shape r)).whole lines) old new s → Unchanged old new
  apply_unchanged_over lines view_db shape (Err e) f = same_stored t old new told s refused (ap (λ (x : Contents). x.stored) f.done)
  apply_unchanged_over lines view_db shape (Ok ts) f = by_reply (follow applying.step lines (Continues [] (just_read view_db shape ts))) refl f
    where
      by_reply : (r : Reply ApplyState) → follow applying.step lines (Continues [] (just_read view_db shape ts)) ≡ r → Finished (ending applying.finish r) old new s → Unchanged old new
      by_reply (Continues es u) e f = not_so t old new told s refused verdict.Done f.status refl
      by_reply (Finishes es v) e f =
          let halts = halts_so lines (just_read view_db shape ts) es v e in
          same_stored t old new told s refused (ap (λ (x : Contents). x.stored) (f.done ∙ ap (λ (fs : List Effect). performed fs (contents old)) halts.1.1))

  pub apply_unchanged : (lines : List (List ℕ)) (d : DefinitionOrRefusal) → Finished ((by_lines applying.step applying.finish (apply_opening t d)).whole lines) old new s → Unchanged old new
  apply_unchanged lines (Err fields) f = same_stored t old new told s refused (ap (λ (x : Contents). x.stored) f.done)
  apply_unchanged lines (Ok a) f = apply_unchanged_over lines a.query.view_db (shape_of a.query) (held (shape_of a.query) t (folder_of a)) f

-- a folder that was said to differ from an accepted view does
pub did_differ : (name : Text) (t : Tree) (d : DefinitionOrRefusal) (rest : Option (List ℕ)) (old new : World) (s : Status) → s ≡ status.NoView → Did (unread (verified t d)) [] rest old new s → Differs d t
did_differ name t d rest old new s is h = λ o held.
    let a = o.accepted in
    let c = o.catalogue in
    let f = refused_finished (unread (verified t d)) [] rest old new s (ap is_refused_status is) h in
    let same : (verified t d).status ≡ verdict.Done =
    ap (λ (x : DefinitionOrRefusal). (verified t x).status) o.defined ∙ ap (λ (r : Result CatalogueValue Row). (verified_over t a.query r).status) o.loaded
    ∙ ap (λ (r : Option Row). (verified_view t a.query c r).status) o.unrefused
    ∙ ap (λ (r : Comparison). (by_comparison r).status) (holds_same (folder_of a) (files_of_view c a.query) t (are_view_files c a.query) held) in
    absurd (cc (sym is ∙ f.status ∙ ap verdict_status same))
