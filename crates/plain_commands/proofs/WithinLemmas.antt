-- The effects of each command are on the `.csv` files of the view's folder.
use Rattle.std.proofs.Common.{◌≡◌, ℕ, List, [], ◌∷◌, ◌++◌, Option, None, Some, refl, sym, ◌∙◌, subst}
use Rattle.std.specs.Prelude.{Result, Ok, Err}
use Rattle.ss_text.specs.Texts.{Text, Row}
use Rattle.outside.specs.Tree.{Tree, files_of}
use Rattle.outside.specs.Effects.{Effect}
use Rattle.schema_model.specs.Catalogue.{CatalogueValue}
use Rattle.flow_law.specs.Tables.{TablesValue}
use Rattle.view_meaning.specs.Meaning.{shape_of}
use Rattle.view_folder.specs.Files.{view_folder}
use Rattle.view_folder.specs.Comparison.{comparison}
use Rattle.view_folder.specs.declared.comparison.Comparison.{Comparison}
use Rattle.view_folder.specs.declared.comparison.Comparison.TheVariants as compared
use Rattle.course.specs.Answering.{Reply, Continues, Finishes, ending, follow}
use Rattle.view_folder.specs.declared.held.TablesFault.{TablesFault}
use Rattle.view_folder.specs.Held.{held}
use Rattle.plain_commands.specs.Applying as applying
use Rattle.plain_commands.specs.Applying.{ApplyState, by_folder, just_read}
use Rattle.plain_commands.proofs.CourseLemmas.{went_on, halts_so}
use Rattle.course.specs.Course.{by_lines, goes_so_far}
use Rattle.view_stages.specs.Places.{CsvFiles}
use Rattle.view_stages.specs.Stages.{Accepted, refusal_of, files_of_view}
use Rattle.view_stages.specs.Opening.{with_catalogue, with_view, opening_effects, done_at_once}
use Rattle.view_stages.specs.Opened.{folder_of}
use Rattle.view_stages.proofs.PlaceLemmas.{AllWithin}
use Rattle.view_stages.proofs.WithinLemmas.{both_within, replaced_within, opened_within}
use Rattle.plain_commands.specs.Verifying.{by_comparison, verified_over, verified_view}

-- those of each command
module _ (t : Tree) (a : Accepted) where
  show_view : (c : CatalogueValue) (r : Option Row) → AllWithin (CsvFiles (folder_of a) ∷ []) (ending done_at_once (with_view t a.query c r)).effects
  show_view c (Some fields) = (tt, tt)
  show_view c None = both_within (CsvFiles (folder_of a) ∷ []) (opening_effects (folder_of a) (files_of_view c a.query) (files_of t (folder_of a))) [] (opened_within t a c []) tt

  pub show_over : (r : Result CatalogueValue Row) → AllWithin (CsvFiles (folder_of a) ∷ []) (ending done_at_once (with_catalogue t a.query r)).effects
  show_over (Err fields) = (tt, tt)
  show_over (Ok c) = show_view c (refusal_of c a.query)

  module _ (lines : List (List ℕ)) where
    -- lines that are applied to the tables of the view's folder
    abbrev Applying : List Effect → Type 0
    Applying es = AllWithin (CsvFiles (folder_of a) ∷ []) es

    apply_lines : (s0 : ApplyState) → s0.view_db ≡ a.query.view_db → (r : Reply ApplyState) → follow applying.step lines (Continues [] s0) ≡ r → Applying (ending applying.finish r).effects
    apply_lines s0 named (Continues es u) e =
        let went = went_on lines s0 es u e in
        let last : AllWithin (CsvFiles (view_folder u.view_db) ∷ []) (applying.finish u).effects = (replaced_within (view_folder u.view_db) [] u.shape u.tables u.named, (tt, tt)) in
        let here = subst (λ (v : Text). AllWithin (CsvFiles (view_folder v) ∷ []) (applying.finish u).effects) (went.1.applies.view_db ∙ named) last in
        subst (λ (fs : List Effect). Applying (fs ++ (applying.finish u).effects)) (sym went.0) here
    apply_lines s0 named (Finishes es v) e = subst Applying (sym (halts_so lines s0 es v e).1.1) (tt, tt)

    pub apply_over : (r : Result TablesValue TablesFault) → Applying ((by_lines applying.step applying.finish (by_folder a.query.view_db (shape_of a.query) r)).whole lines).effects
    apply_over (Err f) = (tt, tt)
    apply_over (Ok ts) =
        let s0 = just_read a.query.view_db (shape_of a.query) ts in
        apply_lines s0 refl (follow applying.step lines (Continues [] s0)) refl

    -- until the end they do nothing
    nothing_so_far : (s0 : ApplyState) (r : Reply ApplyState) → follow applying.step lines (Continues [] s0) ≡ r → (gs : List Effect) → goes_so_far [] r ≡ Some gs → Applying gs
    nothing_so_far s0 (Continues es u) e gs meant = let same : es ≡ gs = cc meant in subst Applying ((sym (went_on lines s0 es u e).0) ∙ same) tt
    nothing_so_far s0 (Finishes es v) e gs meant = absurd (cc meant)

    pub apply_so_far : (r : Result TablesValue TablesFault) (gs : List Effect) → (by_lines applying.step applying.finish (by_folder a.query.view_db (shape_of a.query) r)).so_far lines ≡ Some gs → Applying gs
    apply_so_far (Err f) gs e = absurd (cc e)
    apply_so_far (Ok ts) gs e =
        let s0 = just_read a.query.view_db (shape_of a.query) ts in
        nothing_so_far s0 (follow applying.step lines (Continues [] s0)) refl gs e

  compared_within : (r : Comparison) → AllWithin (CsvFiles (folder_of a) ∷ []) (by_comparison r).effects
  compared_within (compared.Same n) = (tt, tt)
  compared_within (compared.Differs file held meant) = (tt, tt)

  verify_view : (c : CatalogueValue) (r : Option Row) → AllWithin (CsvFiles (folder_of a) ∷ []) (verified_view t a.query c r).effects
  verify_view c (Some fields) = (tt, tt)
  verify_view c None = compared_within (comparison (view_folder a.query.view_db) (files_of_view c a.query) t)

  pub verify_over : (r : Result CatalogueValue Row) → AllWithin (CsvFiles (folder_of a) ∷ []) (verified_over t a.query r).effects
  verify_over (Err fields) = (tt, tt)
  verify_over (Ok c) = verify_view c (refusal_of c a.query)
