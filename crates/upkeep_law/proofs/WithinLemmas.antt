-- The effects of an opened view are on what is exempt.
use Rattle.std.proofs.Common.{◌≡◌, ℕ, Bool, true, false, List, [], ◌∷◌, ◌++◌, Option, None, Some, refl, sym, ap, ◌∙◌, subst}
use Rattle.std.specs.Prelude.{Result, Ok, Err}
use Rattle.std.specs.List.{AllByRecursion}
use Rattle.ss_text.specs.Texts.{Text, Row}
use Rattle.outside.specs.Tree.{Tree, files_of}
use Rattle.outside.specs.Effects.{Effect, Write, Remove, Replace, Print}
use Rattle.schema_model.specs.Catalogue.{CatalogueValue}
use Rattle.source_law.specs.Synced.{Synced, unsaved}
use Rattle.view_def.specs.Query.{Query}
use Rattle.view_meaning.specs.Meaning.{shape_of}
use Rattle.view_folder.specs.Files.{view_folder}
use Rattle.view_folder.specs.Sync.{later_sync}
use Rattle.view_session.specs.Session.{opened, tables_of}
use Rattle.course.specs.Answering.{Reply, Continues, course}
use Rattle.course.specs.Course.{by_lines, goes_so_far}
use Rattle.view_stages.specs.Open.{OpenValue, just_opened}
use Rattle.view_stages.specs.Places.{Exempt, CsvFiles, sources_of}
use Rattle.view_stages.specs.Stages.{Accepted, refusal_of, files_of_view}
use Rattle.view_stages.specs.Opening.{with_catalogue, with_view, opening_effects}
use Rattle.view_stages.specs.Opened.{folder_of}
use Rattle.view_stages.specs.Syncs.{view_effects}
use Rattle.view_stages.proofs.PlaceLemmas.{AllWithin}
use Rattle.view_stages.proofs.WithinLemmas.{both_within, later_within, Grows, grows_itself, grows_then, grows_synced, sync_within, opened_within}
use Rattle.opened_view.specs.Answers.{Said, Tells, Scripts, Syncs, Answer, answers_to, step, finish}
use Rattle.upkeep_law.specs.Given.{IsPrint, sync_by, MayGive, AreGiven}
use Rattle.upkeep_law.specs.Lists.{effects_by, synced_by, last_synced}
use Rattle.upkeep_law.specs.Promises.{view_behind, all_answers, saved_behind, saved_at_end, sources_exempt}
use Rattle.upkeep_law.proofs.GivenLemmas.{first_query}
use Rattle.upkeep_law.proofs.GroupLemmas.{no_group}
use Rattle.upkeep_law.proofs.LineLemmas.{lines_given, lines_followed, all_given, all_done, all_synced}

said_grows : (saves : Bool) (o : OpenValue) (y : Synced) (said : Said) → Grows y (synced_by said saves o.session y)
said_grows saves o y Tells = grows_itself y
said_grows saves o y (Scripts lines) = grows_itself y
said_grows true o y Syncs = grows_synced o.session y
said_grows false o y Syncs = grows_itself y

pub given_grows : (saves : Bool) (answers : List Answer) (o : OpenValue) (y : Synced) → Grows y (last_synced saves o y answers)
given_grows saves [] o y = grows_itself y
given_grows saves (a ∷ answers) o y =
    let x = synced_by a.said saves o.session y in
    grows_then y x (last_synced saves a.view x answers) (said_grows saves o y a.said) (given_grows saves answers a.view x)

-- prints change nothing
pub prints_within : (exempt : List Exempt) (es : List Effect) → AllByRecursion IsPrint es → AllWithin exempt es
prints_within exempt [] h = tt
prints_within exempt (Print bytes ∷ es) h = (tt, prints_within exempt es h.1)
prints_within exempt (Write folder file bytes ∷ es) h = absurd h.0
prints_within exempt (Remove folder file ∷ es) h = absurd h.0
prints_within exempt (Replace edits ∷ es) h = absurd h.0

-- the effects of an open view
module _ (q : Query) (z : Synced) where
  abbrev d : Text
  d = view_folder q.view_db

  abbrev Here : List Exempt
  Here = CsvFiles d ∷ sources_of z

  abbrev Of : List Effect → Type 0
  Of es = AllWithin Here es

  view_within : (o : OpenValue) → o.session.query ≡ q → Of (view_effects o)
  view_within o is =
      subst (λ (x : Query). AllWithin (CsvFiles (view_folder x.view_db) ∷ sources_of z) (view_effects o)) is
      (both_within (CsvFiles (view_folder o.session.query.view_db) ∷ sources_of z) (later_sync (view_folder o.session.query.view_db) (shape_of o.session.query) (tables_of o.session) o.session.changed.labels) _
      (later_within (view_folder o.session.query.view_db) (sources_of z) (shape_of o.session.query) (tables_of o.session) o.session.changed.labels) (tt, tt))

  either_within : (saves : Bool) (o : OpenValue) (y : Synced) → o.session.query ≡ q → Grows (synced_by Syncs saves o.session y) z → Of (sync_by saves o).effects
  either_within true o y is g = sync_within q z o y is g
  either_within false o y is g = view_within o is

  said_within : (saves : Bool) (o : OpenValue) (y : Synced) (a : Answer) (said : Said) → MayGive saves o a said → o.session.query ≡ q → Grows (synced_by said saves o.session y) z → Of a.effects
  said_within saves o y a Tells h is g = prints_within Here a.effects h.prints
  said_within saves o y a (Scripts lines) h is g = prints_within Here a.effects h.prints.prints
  said_within saves o y a Syncs h is g = subst Of (sym h.effects) (either_within saves o y is g)

  pub given_within : (saves : Bool) (answers : List Answer) (o : OpenValue) (y : Synced) → AreGiven saves o answers → o.session.query ≡ q → Grows (last_synced saves o y answers) z → Of (effects_by answers)
  given_within saves [] o y are is g = tt
  given_within saves (a ∷ answers) o y are is g =
      let x = synced_by a.said saves o.session y in
      both_within Here a.effects (effects_by answers)
      (said_within saves o y a a.said are.0 is (grows_then x (last_synced saves a.view x answers) z (given_grows saves answers a.view x) g))
      (given_within saves answers a.view x are.1 (first_query saves o a are.0 ∙ is) g)

-- those of `maintain`
module _ (t : Tree) (a : Accepted) (lines : List (List ℕ)) where
  abbrev Maintaining : Reply OpenValue → List Effect → Type 0
  Maintaining r es = AllWithin (CsvFiles (folder_of a) ∷ sources_exempt r lines) es

  maintain_view : (c : CatalogueValue) (r : Option Row) → Maintaining (with_view t a.query c r) ((by_lines step finish (with_view t a.query c r)).whole lines).effects
  maintain_view c (Some fields) = (tt, tt)
  maintain_view c None =
      let o : OpenValue = just_opened a.query c in
      let z : Synced = saved_at_end o lines in
      both_within (CsvFiles (folder_of a) ∷ sources_of z) (opening_effects (folder_of a) (files_of_view c a.query) (files_of t (folder_of a))) (course step finish o lines).effects (opened_within t a c (sources_of z))
      (subst (AllWithin (CsvFiles (folder_of a) ∷ sources_of z)) (all_done lines o)
      (given_within a.query z true (all_answers o lines) o (unsaved c) (all_given lines o (no_group (opened a.query c) refl)) refl (subst (λ (y : Synced). Grows y z) (sym (all_synced lines o)) (grows_itself z))))

  pub maintain_over : (r : Result CatalogueValue Row) → Maintaining (with_catalogue t a.query r) ((by_lines step finish (with_catalogue t a.query r)).whole lines).effects
  maintain_over (Err fields) = (tt, tt)
  maintain_over (Ok c) = maintain_view c (refusal_of c a.query)

  -- and until these lines are answered
  so_far_is : (es fs gs : List Effect) (p : OpenValue) → goes_so_far es (Continues fs p) ≡ Some gs → es ++ fs ≡ gs
  so_far_is es fs gs p e = cc e

  so_far_view : (c : CatalogueValue) (r : Option Row) (gs : List Effect) → (by_lines step finish (with_view t a.query c r)).so_far lines ≡ Some gs → Maintaining (with_view t a.query c r) gs
  so_far_view c (Some fields) gs e = absurd (cc e)
  so_far_view c None gs e =
      let o : OpenValue = just_opened a.query c in
      let z : Synced = saved_at_end o lines in
      let es : List Effect = opening_effects (folder_of a) (files_of_view c a.query) (files_of t (folder_of a)) in
      let fs : List Effect = effects_by (answers_to o lines) in
      subst (AllWithin (CsvFiles (folder_of a) ∷ sources_of z)) (so_far_is es fs gs (view_behind o lines) (ap (goes_so_far es) (sym (lines_followed lines o)) ∙ e))
      (both_within (CsvFiles (folder_of a) ∷ sources_of z) es fs (opened_within t a c (sources_of z))
      (given_within a.query z true (answers_to o lines) o (unsaved c) (lines_given true lines o (no_group (opened a.query c) refl)) refl (grows_synced (view_behind o lines).session (saved_behind o lines))))

  pub so_far_over : (r : Result CatalogueValue Row) (gs : List Effect) → (by_lines step finish (with_catalogue t a.query r)).so_far lines ≡ Some gs → Maintaining (with_catalogue t a.query r) gs
  so_far_over (Err fields) gs e = absurd (cc e)
  so_far_over (Ok c) gs e = so_far_view c (refusal_of c a.query) gs e
