-- A view with feeds changes its own files and the sources that were named, and no others.
use Rattle.std.proofs.Common.{◌≡◌, ℕ, true, List, ◌∷◌, ◌++◌, Option, None, Some, refl, sym, ap, ◌∙◌, subst}
use Rattle.std.specs.Prelude.{Result, Ok, Err}
use Rattle.ss_text.specs.Texts.{Row}
use Rattle.outside.specs.Tree.{Tree, files_of}
use Rattle.outside.specs.Effects.{Effect}
use Rattle.schema_model.specs.Catalogue.{CatalogueValue}
use Rattle.source_law.specs.Synced.{Synced, unsaved}
use Rattle.course.specs.Answering.{Reply, Continues, course}
use Rattle.course.specs.Course.{by_lines, goes_so_far}
use Rattle.view_stages.specs.Open.{OpenValue, just_opened}
use Rattle.view_stages.specs.Opened.{folder_of}
use Rattle.view_stages.specs.Opening.{with_catalogue, with_view, opening_effects}
use Rattle.view_stages.specs.Places.{CsvFiles, sources_of}
use Rattle.view_stages.specs.Stages.{Accepted, refusal_of, files_of_view}
use Rattle.view_stages.proofs.PlaceLemmas.{AllWithin}
use Rattle.view_stages.proofs.WithinLemmas.{both_within, Grows, grows_itself, grows_synced, opened_within}
use Rattle.opened_view.specs.Steps.{starting}
use Rattle.upkeep_law.specs.Lists.{effects_by}
use Rattle.upkeep_law.proofs.WithinLemmas.{given_within}
use Rattle.feed_answers.specs.declared.view.FeedView.{FeedView}
use Rattle.feed_answers.specs.Answers.{step, finish, at_first, answers_to}
use Rattle.feed_law.specs.Promises.{view_behind, all_answers, saved_behind, saved_at_end, sources_fed}
use Rattle.feed_law.proofs.LineLemmas.{lines_given, fed_behind, lines_followed, all_done, all_given, all_synced}

module _ (t : Tree) (a : Accepted) (lines : List (List ℕ)) where
  abbrev Feeding : Reply OpenValue → List Effect → Type 0
  Feeding r es = AllWithin (CsvFiles (folder_of a) ∷ sources_fed r lines) es

  feed_view : (c : CatalogueValue) (r : Option Row) → Feeding (with_view t a.query c r) ((by_lines step finish (starting at_first (with_view t a.query c r))).whole lines).effects
  feed_view c (Some fields) = (tt, tt)
  feed_view c None =
      let f : FeedView = at_first (just_opened a.query c) in
      let z : Synced = saved_at_end f lines in
      both_within (CsvFiles (folder_of a) ∷ sources_of z) (opening_effects (folder_of a) (files_of_view c a.query) (files_of t (folder_of a))) (course step finish f lines).effects (opened_within t a c (sources_of z))
      (subst (AllWithin (CsvFiles (folder_of a) ∷ sources_of z)) (all_done lines f)
      (given_within a.query z true (all_answers f lines) f.view (unsaved c) (all_given lines f refl) refl (subst (λ (y : Synced). Grows y z) (sym (all_synced lines f)) (grows_itself z))))

  pub feed_over : (r : Result CatalogueValue Row) → Feeding (with_catalogue t a.query r) ((by_lines step finish (starting at_first (with_catalogue t a.query r))).whole lines).effects
  feed_over (Err fields) = (tt, tt)
  feed_over (Ok c) = feed_view c (refusal_of c a.query)

  -- and until these lines are answered
  so_far_is : (es fs gs : List Effect) (f : FeedView) → goes_so_far es (Continues fs f) ≡ Some gs → es ++ fs ≡ gs
  so_far_is es fs gs f e = cc e

  so_far_view : (c : CatalogueValue) (r : Option Row) (gs : List Effect) → (by_lines step finish (starting at_first (with_view t a.query c r))).so_far lines ≡ Some gs → Feeding (with_view t a.query c r) gs
  so_far_view c (Some fields) gs e = absurd (cc e)
  so_far_view c None gs e =
      let f : FeedView = at_first (just_opened a.query c) in
      let z : Synced = saved_at_end f lines in
      let es : List Effect = opening_effects (folder_of a) (files_of_view c a.query) (files_of t (folder_of a)) in
      let fs : List Effect = effects_by (answers_to f lines) in
      subst (AllWithin (CsvFiles (folder_of a) ∷ sources_of z)) (so_far_is es fs gs (fed_behind f lines) (ap (goes_so_far es) (sym (lines_followed lines f)) ∙ e))
      (both_within (CsvFiles (folder_of a) ∷ sources_of z) es fs (opened_within t a c (sources_of z))
      (given_within a.query z true (answers_to f lines) f.view (unsaved c) (lines_given lines f refl) refl (grows_synced (view_behind f lines).session (saved_behind f lines))))

  pub feed_so_far_over : (r : Result CatalogueValue Row) (gs : List Effect) → (by_lines step finish (starting at_first (with_catalogue t a.query r))).so_far lines ≡ Some gs → Feeding (with_catalogue t a.query r) gs
  feed_so_far_over (Err fields) gs e = absurd (cc e)
  feed_so_far_over (Ok c) gs e = so_far_view c (refusal_of c a.query) gs e
