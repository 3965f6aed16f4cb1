-- What each command left is between what is there before its one stage and what is there behind it.
use Rattle.std.proofs.Common.{◌≡◌, ℕ, true, List, [], ◌∷◌, ◌++◌, Option, None, Some, inl, inr, refl, sym, ap, ◌∙◌, subst, append-nil}
use Rattle.std.specs.Prelude.{Result, Ok, Err, unwrap_or}
use Rattle.ss_text.specs.Texts.{Text, Row}
use Rattle.tab_lines.specs.Lines.{whole_lines}
use Rattle.outside.specs.Tree.{Tree, files_of}
use Rattle.outside.specs.Effects.{Effect, Print, World, Stored, Contents, contents, performed, Partly}
use Rattle.schema_model.specs.Catalogue.{CatalogueValue}
use Rattle.flow_law.specs.Tables.{TablesValue}
use Rattle.view_meaning.specs.Meaning.{shape_of}
use Rattle.view_folder.specs.Comparison.{comparison}
use Rattle.view_folder.specs.Held.{held}
use Rattle.view_folder.specs.declared.comparison.Comparison.{Comparison}
use Rattle.view_folder.specs.declared.comparison.Comparison.TheVariants as compared
use Rattle.view_folder.specs.declared.held.TablesFault.{TablesFault}
use Rattle.course.specs.Answering.{Reply, Continues, Finishes, ending, follow}
use Rattle.ss_print.specs.Printing.{lines_text, applied_rows}
use Rattle.plain_commands.specs.Applying as applying
use Rattle.plain_commands.specs.Applying.{ApplyState, by_folder, just_read, synced_count}
use Rattle.plain_commands.proofs.CourseLemmas.{went_on, halts_so}
use Rattle.course.specs.Course.{Did, GaveOut, by_lines, goes_so_far, is_unread_status}
use Rattle.course.specs.declared.exit.Status.{Status}
use Rattle.course.specs.declared.exit.Status.TheVariants as status
use Rattle.view_stages.specs.Stages.{DefinitionOrRefusal, Accepted, refusal_of, files_of_view}
use Rattle.view_stages.specs.Opening.{with_catalogue, with_view, opening_effects, done_at_once}
use Rattle.view_stages.specs.Opened.{folder_of}
use Rattle.view_stages.specs.Places.{Exempt, CsvFiles}
use Rattle.view_stages.proofs.SyncLemmas.{replaced_stage}
use Rattle.view_stages.proofs.StoppedLemmas.{Stopped, one_stage, printed, opening_stops}
use Rattle.plain_commands.specs.Applies.{apply_opening}
use Rattle.plain_commands.specs.Checking.{checked}
use Rattle.plain_commands.specs.Verifying.{by_comparison, verified_over, verified_view}

-- the run of each command
module _ (s : Stored) (old new : Contents) (told : old.stored ≡ Some s) (lines : List (List ℕ)) where
  abbrev t : Tree
  t = s.tree

  abbrev One : List Exempt → List Effect → Type 0
  One exempt es = Partly es old new → Stopped exempt (es ∷ []) t new

  -- a view that is shown or verified: its own files may be changed
  module _ (a : Accepted) where
    abbrev Viewed : List Effect → Type 0
    Viewed es = One (CsvFiles (folder_of a) ∷ []) es

    prints : (bytes : List ℕ) → Viewed (Print bytes ∷ [])
    prints bytes = printed (CsvFiles (folder_of a) ∷ []) s old new told bytes

    -- `show`
    show_view : (c : CatalogueValue) (r : Option Row) → Viewed (ending done_at_once (with_view t a.query c r)).effects
    show_view c (Some fields) = prints _
    show_view c None =
        let es : List Effect = opening_effects (folder_of a) (files_of_view c a.query) (files_of t (folder_of a)) in
        subst Viewed (sym (append-nil es)) (one_stage (CsvFiles (folder_of a) ∷ []) s old new told es (opening_stops t a c))

    pub show_over : (r : Result CatalogueValue Row) → Viewed (ending done_at_once (with_catalogue t a.query r)).effects
    show_over (Err fields) = prints _
    show_over (Ok c) = show_view c (refusal_of c a.query)

    -- `verify`
    verify_compared : (c : Comparison) → Viewed (by_comparison c).effects
    verify_compared (compared.Same count) = prints _
    verify_compared (compared.Differs file held meant) = prints _

    verify_view : (c : CatalogueValue) (r : Option Row) → Viewed (verified_view t a.query c r).effects
    verify_view c (Some fields) = prints _
    verify_view c None = verify_compared (comparison (folder_of a) (files_of_view c a.query) t)

    pub verify_over : (r : Result CatalogueValue Row) → Viewed (verified_over t a.query r).effects
    verify_over (Err fields) = prints _
    verify_over (Ok c) = verify_view c (refusal_of c a.query)

  -- `check`
  pub check_definition : (exempt : List Exempt) (d : DefinitionOrRefusal) → One exempt (checked d).effects
  check_definition exempt (Err fields) = printed exempt s old new told _
  check_definition exempt (Ok a) = printed exempt s old new told _

  -- `apply`: all of it at once
  apply_lines : (s0 : ApplyState) (r : Reply ApplyState) → follow applying.step lines (Continues [] s0) ≡ r → One [] (ending applying.finish r).effects
  apply_lines s0 (Continues es u) e =
      subst (λ (fs : List Effect). One [] (fs ++ (applying.finish u).effects)) (sym (went_on lines s0 es u e).0)
      (one_stage [] s old new told (applying.finish u).effects (replaced_stage u.view_db u.shape u.tables u.named (lines_text (applied_rows u.lines (synced_count u)))))
  apply_lines s0 (Finishes es v) e = subst (One []) (sym (halts_so lines s0 es v e).1.1) (printed [] s old new told _)

  pub apply_over : (a : Accepted) (r : Result TablesValue TablesFault) → One [] ((by_lines applying.step applying.finish (by_folder a.query.view_db (shape_of a.query) r)).whole lines).effects
  apply_over a (Err f) = printed [] s old new told _
  apply_over a (Ok ts) =
      let s0 = just_read a.query.view_db (shape_of a.query) ts in
      apply_lines s0 (follow applying.step lines (Continues [] s0)) refl

-- until its input ends `apply` does nothing
nothing_taken : (s0 : ApplyState) (lines : List (List ℕ)) (r : Reply ApplyState) → follow applying.step lines (Continues [] s0) ≡ r → (gs : List Effect) → goes_so_far [] r ≡ Some gs → gs ≡ []
nothing_taken s0 lines (Continues es u) e gs meant = ap (λ o. unwrap_or o gs) (sym meant) ∙ (went_on lines s0 es u e).0
nothing_taken s0 lines (Finishes es v) e gs meant = absurd (cc meant)

nothing_held : (a : Accepted) (lines : List (List ℕ)) (r : Result TablesValue TablesFault) (gs : List Effect) → (by_lines applying.step applying.finish (by_folder a.query.view_db (shape_of a.query) r)).so_far lines ≡ Some gs → gs ≡ []
nothing_held a lines (Err f) gs e = absurd (cc e)
nothing_held a lines (Ok ts) gs e =
    let s0 = just_read a.query.view_db (shape_of a.query) ts in
    nothing_taken s0 lines (follow applying.step lines (Continues [] s0)) refl gs e

nothing_so_far : (name : Text) (t : Tree) (d : DefinitionOrRefusal) (lines : List (List ℕ)) (gs : List Effect) → (by_lines applying.step applying.finish (apply_opening t d)).so_far lines ≡ Some gs → gs ≡ []
nothing_so_far name t (Err fields) lines gs e = absurd (cc e)
nothing_so_far name t (Ok a) lines gs e = nothing_held a lines (held (shape_of a.query) t (folder_of a)) gs e

nothing_done : (name : Text) (t : Tree) (d : DefinitionOrRefusal) (bytes : List ℕ) (rest : Option (List ℕ)) (old new : World) → GaveOut (by_lines applying.step applying.finish (apply_opening t d)) bytes rest old new → contents new ≡ contents old
nothing_done name t d bytes rest old new g = g.done ∙ ap (λ (es : List Effect). performed es (contents old)) (nothing_so_far name t d (whole_lines g.taken) g.effects g.meant)

pub did_nothing : (name : Text) (t : Tree) (d : DefinitionOrRefusal) (bytes : List ℕ) (rest : Option (List ℕ)) (old new : World) (s : Status) → is_unread_status s ≡ true → Did (by_lines applying.step applying.finish (apply_opening t d)) bytes rest old new s → contents new ≡ contents old
did_nothing name t d bytes rest old new status.ReadFault unread h = elim h [ inl same ↦ same.1 | inr g ↦ nothing_done name t d bytes rest old new g ]
did_nothing name t d bytes rest old new status.TooLong unread h = nothing_done name t d bytes rest old new h.0
did_nothing name t d bytes rest old new status.Done unread h = absurd (cc unread)
did_nothing name t d bytes rest old new status.SomeRefused unread h = absurd (cc unread)
did_nothing name t d bytes rest old new status.Usage unread h = absurd (cc unread)
did_nothing name t d bytes rest old new status.BadDefinition unread h = absurd (cc unread)
did_nothing name t d bytes rest old new status.BadCatalogue unread h = absurd (cc unread)
did_nothing name t d bytes rest old new status.NoView unread h = absurd (cc unread)
did_nothing name t d bytes rest old new status.WriteFault unread h = absurd (cc unread)
did_nothing name t d bytes rest old new status.NoMemory unread h = absurd (cc unread)
did_nothing name t d bytes rest old new status.DiskFault unread h = absurd (cc unread)
did_nothing name t d bytes rest old new status.JournalFull unread h = absurd (cc unread)
