-- A stack changes the `.csv` files of its levels' folders and the sources that were named, and no others.
use Rattle.std.proofs.Common.{◌≡◌, ◌≢◌, ℕ, Bool, true, false, ◌||◌, List, [], ◌∷◌, ◌++◌, Option, None, Some, map, refl, sym, ap, ◌∙◌, subst}
use Rattle.std.specs.Prelude.{Result, Ok, Err}
use Rattle.std.specs.List.{AllByRecursion, list_any}
use Rattle.std.proofs.lemmas.Bool.{or_right}
use Rattle.std.proofs.lemmas.List.Folds.{list_any-append}
use Rattle.ss_text.specs.Texts.{Text, Row, text_eq, is_in}
use Rattle.outside.specs.Tree.{Tree}
use Rattle.outside.specs.declared.edit.Edit.{Edit}
use Rattle.outside.specs.declared.edit.Edit.TheVariants as edit
use Rattle.outside.specs.Effects.{Effect, Write, Remove, Replace, Print}
use Rattle.schema_model.specs.Catalogue.{CatalogueValue}
use Rattle.csv_catalog.specs.FileFaults.{first_repeated}
use Rattle.csv_catalog.specs.Saved.{saved}
use Rattle.view_def.specs.Query.{Query}
use Rattle.view_folder.specs.Files.{view_folder}
use Rattle.source_law.specs.Synced.{Synced, unsaved}
use Rattle.source_law.proofs.NamedLemmas.{same_text}
use Rattle.course.specs.Answering.{Reply, Continues, course}
use Rattle.course.specs.Course.{by_lines, goes_so_far}
use Rattle.view_stages.specs.Open.{OpenValue}
use Rattle.view_stages.specs.Places.{Exempt, CsvFiles, is_exempt, is_exempt_folder, sources_of}
use Rattle.view_stages.specs.Stages.{DefinitionOrRefusal, loaded_or_refused}
use Rattle.view_stages.proofs.PlaceLemmas.{WithinEdit, Within, AllWithin}
use Rattle.view_stages.proofs.WithinLemmas.{both_within, Grows, grows_itself, grows_then, sync_within}
use Rattle.upkeep_law.proofs.WithinLemmas.{prints_within}
use Rattle.stack_levels.specs.declared.refusal.LevelRefusal.{LevelRefusal}
use Rattle.stack_levels.specs.Levels.{opening_refusal}
use Rattle.stack_answers.specs.Stack.{StackState, queries_of, stack_tables, stack_at_first}
use Rattle.stack_answers.specs.Answers.{Answer, refusal_effects, sync_effects, folder_effects, step, finish}
use Rattle.stack_answers.specs.Opening.{all_accepted, with_levels, with_catalogue, with_databases, with_definitions, opening, folders_opened}
use Rattle.stack_law.specs.Lists.{answers_to, effects_by, synced, synced_by, last_synced}
use Rattle.stack_law.specs.Promises.{folders_of, opening_of, stack_behind, all_answers, saved_behind, saved_at_end, sources_stacked}
use Rattle.stack_law.proofs.FolderLemmas.{AllIn, in_within}
use Rattle.stack_law.proofs.GivenLemmas.{MayGive, ByTelling, ByMaking, BySyncing, AreGiven, refusal_prints, same_views, lines_given, all_given, none_open}
use Rattle.stack_law.proofs.KeptLemmas.{lowest, openings_in, syncs_in}
use Rattle.stack_law.proofs.LevelLemmas.{folder_names, views_synced}
use Rattle.stack_law.proofs.LineLemmas.{lines_followed, all_done, all_saved}
use Rattle.stack_law.proofs.OpenedLemmas.{all_exempt, accepted_some, accepted_exempt}

-- ---- what is exempt by more
abbrev pub Covers : List Exempt → List Exempt → Type 0
Covers xs ys = (f : Exempt → Bool) → list_any f xs ≡ true → list_any f ys ≡ true

module _ (xs ys : List Exempt) (more : Covers xs ys) where
  edit_covered : (e : Edit) → WithinEdit xs e → WithinEdit ys e
  edit_covered (edit.MakeFolder folder) h = λ d on. more (is_exempt_folder d) (h d on)
  edit_covered (edit.Write folder file bytes) h = (more (is_exempt (folder, file)) h.0, λ d on. more (is_exempt_folder d) (h.1 d on))
  edit_covered (edit.Remove folder file) h = more (is_exempt (folder, file)) h
  edit_covered (edit.RemoveFolder folder) h = more (is_exempt_folder folder) h

  edits_covered : (es : List Edit) → AllByRecursion (WithinEdit xs) es → AllByRecursion (WithinEdit ys) es
  edits_covered [] h = tt
  edits_covered (e ∷ es) h = (edit_covered e h.0, edits_covered es h.1)

  pub covered : (e : Effect) → Within xs e → Within ys e
  covered (Write folder file bytes) h = (more (is_exempt (folder, file)) h.0, λ d on. more (is_exempt_folder d) (h.1 d on))
  covered (Remove folder file) h = more (is_exempt (folder, file)) h
  covered (Replace edits) h = edits_covered edits h
  covered (Print bytes) h = h

covers_front : (xs ys : List Exempt) → Covers xs (xs ++ ys)
covers_front xs ys f h = list_any-append f xs ys ∙ ap (λ b. b || list_any f ys) h

-- the folders of views are among what is exempt for them
pub folder_covered : (qs : List Query) (d : Text) → is_in d (folder_names qs) ≡ true → (f : Exempt → Bool) → f (CsvFiles d) ≡ true → list_any f (folders_of qs) ≡ true
folder_covered [] d h f k = absurd (cc h)
folder_covered (q ∷ qs) d h f k = by_test (λ among. folder_covered qs d among f k) (text_eq d (view_folder q.view_db)) refl h
  where
    by_test : (is_in d (folder_names qs) ≡ true → list_any f (folders_of qs) ≡ true) → (b : Bool) → text_eq d (view_folder q.view_db) ≡ b → (b || is_in d (folder_names qs)) ≡ true → list_any f (folders_of (q ∷ qs)) ≡ true
    by_test later true e h = ap (λ b. b || list_any f (folders_of qs)) (ap (λ (x : Text). f (CsvFiles x)) (sym (same_text d (view_folder q.view_db) e)) ∙ k)
    by_test later false e h = or_right (f (CsvFiles (view_folder q.view_db))) (list_any f (folders_of qs)) (later h)

-- effects on them are within
pub in_folders : (qs : List Query) (z : List Exempt) (es : List Effect) → AllIn (folder_names qs) es → AllWithin (folders_of qs ++ z) es
in_folders qs z es h = in_within (folder_names qs) (folders_of qs ++ z) (λ d among f k. covers_front (folders_of qs) z f (folder_covered qs d among f k)) es h

-- ---- what is saved grows
saves_more : (s : StackState) (y : Synced) → Grows y (synced s y)
saves_more s y = record { relations = λ f h. list_any-append f y.relations s.relations ∙ ap (λ b. b || list_any f s.relations) h; databases = λ f h. list_any-append f y.databases s.databases ∙ ap (λ b. b || list_any f s.databases) h }

one_grows : (es : List Effect) (s : StackState) (y : Synced) → Grows y (synced_by es s y)
one_grows [] s y = grows_itself y
one_grows (Print bytes ∷ es) s y = grows_itself y
one_grows (Write folder file bytes ∷ es) s y = grows_itself y
one_grows (Remove folder file ∷ es) s y = grows_itself y
one_grows (Replace edits ∷ es) s y = saves_more s y

given_grows : (answers : List Answer) (s : StackState) (y : Synced) → Grows y (last_synced s y answers)
given_grows [] s y = grows_itself y
given_grows (a ∷ answers) s y = grows_then y (synced_by a.effects s y) (last_synced a.stack (synced_by a.effects s y) answers) (one_grows a.effects s y) (given_grows answers a.stack (synced_by a.effects s y))

-- ---- the effects of a stack
module _ (q0 : Query) (more : List Query) (z : Synced) where
  abbrev qs : List Query
  qs = q0 ∷ more

  abbrev Here : List Exempt
  Here = folders_of qs ++ sources_of z

  -- what is saved, as a view's sync saves it
  abbrev opened_lowest : StackState → OpenValue
  opened_lowest s = record { session = lowest q0 s; synced = []; refused = false; broken = 0 }

  first_covered : Covers (CsvFiles (view_folder q0.view_db) ∷ sources_of z) Here
  first_covered f h = by_test (f (CsvFiles (view_folder q0.view_db))) h
    where
      by_test : (b : Bool) → (b || list_any f (sources_of z)) ≡ true → (b || list_any f (folders_of more ++ sources_of z)) ≡ true
      by_test true k = refl
      by_test false k = list_any-append f (folders_of more) (sources_of z) ∙ or_right (list_any f (folders_of more)) (list_any f (sources_of z)) k

  saved_within : (s : StackState) (y : Synced) → Grows (synced s y) z → Within Here (Replace (saved s.catalogue s.databases s.relations))
  saved_within s y g = covered (CsvFiles (view_folder q0.view_db) ∷ sources_of z) Here first_covered (Replace (saved s.catalogue s.databases s.relations)) (sync_within q0 z (opened_lowest s) y refl g).0

  syncing_within : (s : StackState) (y : Synced) → queries_of s ≡ qs → Grows (synced s y) z → AllWithin Here (sync_effects s)
  syncing_within s y is g = (
    saved_within s y g,
    both_within Here (folder_effects s.levels (stack_tables s)) _ (in_folders qs (sources_of z) (folder_effects s.levels (stack_tables s)) (subst (λ (ps : List Query). AllIn (folder_names ps) (folder_effects s.levels (stack_tables s))) is (syncs_in s.levels s.catalogue))) (tt, tt),
  )

  one_within : (s : StackState) (y : Synced) (a : Answer) → MayGive s a → queries_of s ≡ qs → Grows (synced_by a.effects s y) z → AllWithin Here a.effects
  one_within s y a (ByTelling h) is g = prints_within Here a.effects h.prints
  one_within s y a (ByMaking m) is g = subst (λ (x : Answer). AllWithin Here x.effects) (sym m.is) (tt, tt)
  one_within s y a (BySyncing e) is g =
      subst (λ (x : Answer). AllWithin Here x.effects) (sym e) (syncing_within s y is (subst (λ (x : Answer). Grows (synced_by x.effects s y) z) e g))

  pub given_within : (answers : List Answer) (s : StackState) (y : Synced) → AreGiven s answers → queries_of s ≡ qs → Grows (last_synced s y answers) z → AllWithin Here (effects_by answers)
  given_within [] s y are is g = tt
  given_within (a ∷ answers) s y are is g =
      let x : Synced = synced_by a.effects s y in
      both_within Here a.effects (effects_by answers)
      (one_within s y a are.0 is (grows_then x (last_synced a.stack x answers) z (given_grows answers a.stack x) g))
      (given_within answers a.stack x are.1 (same_views s a are.0 ∙ is) g)

  pub opening_within : (t : Tree) (c : CatalogueValue) → AllWithin Here (opening_of t qs c)
  opening_within t c = both_within Here (folders_opened t c qs) _ (in_folders qs (sources_of z) (folders_opened t c qs) (openings_in qs t c)) (tt, tt)

-- ---- a run over these lines
module _ (t : Tree) (lines : List (List ℕ)) (ds : List DefinitionOrRefusal) (some : ds ≢ []) where
  abbrev Stacking : List Query → Reply StackState → List Effect → Type 0
  Stacking qs r es = AllWithin (folders_of qs ++ sources_stacked r lines) es

  module _ (q0 : Query) (more : List Query) where
    abbrev all : List Query
    all = q0 ∷ more

    levels_within : (c : CatalogueValue) (o : Option LevelRefusal) → Stacking all (with_levels t all c o) ((by_lines step finish (with_levels t all c o)).whole lines).effects
    levels_within c (Some r) = prints_within (folders_of all ++ []) (refusal_effects r) (refusal_prints r)
    levels_within c None =
        let s : StackState = stack_at_first all c in
        let z : Synced = saved_at_end s lines in
        both_within (folders_of all ++ sources_of z) (opening_of t all c) (course step finish s lines).effects (opening_within q0 more z t c)
        (subst (AllWithin (folders_of all ++ sources_of z)) (all_done lines s)
        (given_within q0 more z (all_answers s lines) s (unsaved c) (all_given lines s (none_open s refl)) (views_synced c all) (subst (λ (y : Synced). Grows y z) (sym (all_saved lines s)) (grows_itself z))))

    catalogue_within : (r : Result CatalogueValue Row) → Stacking all (with_catalogue t all r) ((by_lines step finish (with_catalogue t all r)).whole lines).effects
    catalogue_within (Err fields) = (tt, tt)
    catalogue_within (Ok c) = levels_within c (opening_refusal c all)

    databases_within : (o : Option Text) → Stacking all (with_databases t all o) ((by_lines step finish (with_databases t all o)).whole lines).effects
    databases_within (Some db) = (tt, tt)
    databases_within None = catalogue_within (loaded_or_refused t)

    -- and until these lines are answered
    so_far_is : (es fs gs : List Effect) (s : StackState) → goes_so_far es (Continues fs s) ≡ Some gs → es ++ fs ≡ gs
    so_far_is es fs gs s e = cc e

    levels_so_far : (c : CatalogueValue) (o : Option LevelRefusal) (gs : List Effect) → (by_lines step finish (with_levels t all c o)).so_far lines ≡ Some gs → Stacking all (with_levels t all c o) gs
    levels_so_far c (Some r) gs e = absurd (cc e)
    levels_so_far c None gs e =
        let s : StackState = stack_at_first all c in
        let z : Synced = saved_at_end s lines in
        let es : List Effect = opening_of t all c in
        let fs : List Effect = effects_by (answers_to s lines) in
        subst (AllWithin (folders_of all ++ sources_of z)) (so_far_is es fs gs (stack_behind s lines) (ap (goes_so_far es) (sym (lines_followed lines s)) ∙ e))
        (both_within (folders_of all ++ sources_of z) es fs (opening_within q0 more z t c)
        (given_within q0 more z (answers_to s lines) s (unsaved c) (lines_given lines s (none_open s refl)) (views_synced c all) (saves_more (stack_behind s lines) (saved_behind s lines))))

    catalogue_so_far : (r : Result CatalogueValue Row) (gs : List Effect) → (by_lines step finish (with_catalogue t all r)).so_far lines ≡ Some gs → Stacking all (with_catalogue t all r) gs
    catalogue_so_far (Err fields) gs e = absurd (cc e)
    catalogue_so_far (Ok c) gs e = levels_so_far c (opening_refusal c all) gs e

    databases_so_far : (o : Option Text) (gs : List Effect) → (by_lines step finish (with_databases t all o)).so_far lines ≡ Some gs → Stacking all (with_databases t all o) gs
    databases_so_far (Some db) gs e = absurd (cc e)
    databases_so_far None gs e = catalogue_so_far (loaded_or_refused t) gs e

  abbrev AllExempt : Result (List Query) Row → List Effect → Type 0
  AllExempt r es = AllWithin (all_exempt ds ++ sources_stacked (with_definitions t r) lines) es

  exempt_as : (qs : List Query) (es : List Effect) → all_accepted ds ≡ Ok qs → Stacking qs (with_definitions t (Ok qs)) es → AllExempt (Ok qs) es
  exempt_as qs es is h = subst (λ (xs : List Exempt). AllWithin (xs ++ sources_stacked (with_definitions t (Ok qs)) lines) es) (sym (accepted_exempt ds qs is)) h

  definitions_within : (r : Result (List Query) Row) → all_accepted ds ≡ r → AllExempt r ((by_lines step finish (with_definitions t r)).whole lines).effects
  definitions_within (Err fields) is = (tt, tt)
  definitions_within (Ok []) is = absurd (accepted_some ds some is)
  definitions_within (Ok (q ∷ qs)) is = exempt_as (q ∷ qs) _ is (databases_within q qs (first_repeated (map (λ (p : Query). p.view_db) (q ∷ qs))))

  pub stack_within : AllWithin (all_exempt ds ++ sources_stacked (opening t ds) lines) ((by_lines step finish (opening t ds)).whole lines).effects
  stack_within = definitions_within (all_accepted ds) refl

  definitions_so_far : (r : Result (List Query) Row) → all_accepted ds ≡ r → (gs : List Effect) → (by_lines step finish (with_definitions t r)).so_far lines ≡ Some gs → AllExempt r gs
  definitions_so_far (Err fields) is gs e = absurd (cc e)
  definitions_so_far (Ok []) is gs e = absurd (accepted_some ds some is)
  definitions_so_far (Ok (q ∷ qs)) is gs e = exempt_as (q ∷ qs) gs is (databases_so_far q qs (first_repeated (map (λ (p : Query). p.view_db) (q ∷ qs))) gs e)

  pub stack_so_far_within : (gs : List Effect) → (by_lines step finish (opening t ds)).so_far lines ≡ Some gs → AllWithin (all_exempt ds ++ sources_stacked (opening t ds) lines) gs
  stack_so_far_within gs e = definitions_so_far (all_accepted ds) refl gs e
