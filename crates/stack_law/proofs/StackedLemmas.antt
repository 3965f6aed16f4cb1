-- A run of `stack` that was done kept all levels up to date, and one whose input gave out did so up to the last sync.
use Rattle.std.proofs.Common.{◌≡◌, ◌≢◌, ℕ, true, false, List, [], ◌∷◌, ◌++◌, Option, None, Some, map, inl, inr, refl, sym, ap, ◌∙◌, subst}
use Rattle.std.specs.Prelude.{Result, Ok, Err}
use Rattle.std.proofs.lemmas.Bool.{true≢false}
use Rattle.std.specs.List.{AllByRecursion}
use Rattle.ss_text.specs.Texts.{Text, Row}
use Rattle.outside.specs.Tree.{Tree}
use Rattle.outside.specs.Whole.{IsWhole}
use Rattle.outside.specs.Effects.{Effect, World, Stored, Contents, contents, performed}
use Rattle.schema_model.specs.Catalogue.{CatalogueValue}
use Rattle.schema_model.specs.Changes.{after_all}
use Rattle.schema_model.proofs.ReadyLemmas.{same_some}
use Rattle.csv_catalog.specs.FileFaults.{first_repeated}
use Rattle.source_law.specs.Counted.{tree_after}
use Rattle.source_law.specs.Synced.{Synced, unsaved}
use Rattle.source_law.proofs.AfterLemmas.{stored_by, stored_after}
use Rattle.source_law.proofs.SavingLemmas.{sources_hold}
use Rattle.tab_lines.specs.Lines.{lines_of, whole_lines}
use Rattle.view_def.specs.Query.{Query}
use Rattle.view_def.specs.Profile.{IsViewOfProfile}
use Rattle.view_folder.specs.Files.{Apart}
use Rattle.course.specs.Answering.{Ending, Continues, course, follow}
use Rattle.course.specs.declared.exit.Status.{Status}
use Rattle.course.specs.declared.exit.Status.TheVariants as status
use Rattle.course.specs.Course.{Finished, Did, GaveOut, GaveOutStatus, by_lines, first as first_course, goes_so_far, verdict_status, is_done_status}
use Rattle.course.proofs.RunLemmas.{done_finished}
use Rattle.course.proofs.ToldLemmas.{told_tree, contents_told}
use Rattle.view_stages.specs.Places.{Exempt, sources_of}
use Rattle.view_stages.specs.Stages.{DefinitionOrRefusal, loaded_or_refused}
use Rattle.view_stages.proofs.PlaceLemmas.{StaysIn, stays_told, at_first_stays, performed_stays}
use Rattle.view_stages.proofs.WithinLemmas.{both_within, grows_itself}
use Rattle.view_stages.proofs.BetweenLemmas.{tree_append}
use Rattle.upkeep_law.proofs.UpheldLemmas.{loaded_is}
use Rattle.stack_levels.specs.declared.refusal.LevelRefusal.{LevelRefusal}
use Rattle.stack_levels.specs.Levels.{opening_refusal}
use Rattle.stack_answers.specs.Stack.{StackState, queries_of, stack_at_first}
use Rattle.stack_answers.specs.Answers.{Answer, making, step, finish}
use Rattle.stack_answers.specs.Opening.{all_accepted, with_levels, with_catalogue, with_databases, with_definitions, opening, opening_sum}
use Rattle.stack_law.specs.Law.{DidOver}
use Rattle.stack_law.specs.Lists.{answers_to, effects_by, stack_after, last_synced, writes_by}
use Rattle.stack_law.specs.Promises.{folders_of, MakesAllOrNone, EachMakes, AreUpheld, AreMaintained, AreCutOff, opening_of, effects_so_far, writes_so_far, stack_behind, all_answers, saved_behind, saved_at_end}
use Rattle.stack_law.proofs.EffectLemmas.{CountsAs, counts_then, printed_held}
use Rattle.stack_law.proofs.GivenLemmas.{MayGive, ByTelling, ByMaking, BySyncing, AreGiven, made_catalogue, same_views, lines_given, all_given, none_open}
use Rattle.stack_law.proofs.KeptLemmas.{IsKept, answers_keep, opened_keeps}
use Rattle.stack_law.proofs.LevelLemmas.{folder_names, folders_apart, Unrefused, opening_unrefused, changing_unrefused, all_take, views_synced}
use Rattle.stack_law.proofs.LineLemmas.{lines_followed, course_is, all_done, all_saved, given_catalogue}
use Rattle.stack_law.proofs.OpenedLemmas.{accepted_some, accepted_profiles, names_some}
use Rattle.stack_law.proofs.WithinLemmas.{given_within, opening_within}

-- ---- what answers make
module _ (qs : List Query) (profiles : AllByRecursion IsViewOfProfile qs) where
  -- no level is refused behind an answer
  unrefused_then : (s : StackState) (a : Answer) → MayGive s a → queries_of s ≡ qs → Unrefused s.catalogue qs → Unrefused a.stack.catalogue qs
  unrefused_then s a (ByTelling h) is u = subst (λ (c : CatalogueValue). Unrefused c qs) (sym h.alike.catalogue) u
  unrefused_then s a (ByMaking m) is u =
      subst (λ (x : Answer). Unrefused x.stack.catalogue qs) (sym m.is) (subst (Unrefused (after_all s.catalogue m.changes)) is (changing_unrefused s.catalogue (after_all s.catalogue m.changes) (queries_of s) m.unrefused))
  unrefused_then s a (BySyncing e) is u = subst (λ (x : Answer). Unrefused x.stack.catalogue qs) (sym e) u

  makes_one : (s : StackState) (a : Answer) → MayGive s a → queries_of s ≡ qs → Unrefused s.catalogue qs → MakesAllOrNone qs s.catalogue a
  makes_one s a (ByTelling h) is u = record { catalogue = made_catalogue s a (ByTelling h); made = λ some. absurd (some h.changes) }
  makes_one s a (ByMaking m) is u =
      subst (λ (x : Answer). MakesAllOrNone qs s.catalogue x) (sym m.is)
      (subst (λ (ps : List Query). MakesAllOrNone ps s.catalogue (making s m.changes)) is
      (record {
        catalogue = refl;
        made = λ some. record {
          unrefused = m.unrefused;
          printed = refl;
          takes = all_take s.catalogue (after_all s.catalogue m.changes) (queries_of s) (subst (AllByRecursion IsViewOfProfile) (sym is) profiles) (subst (Unrefused s.catalogue) (sym is) u)
              (changing_unrefused s.catalogue (after_all s.catalogue m.changes) (queries_of s) m.unrefused);
        };
      }))
  makes_one s a (BySyncing e) is u = subst (λ (x : Answer). MakesAllOrNone qs s.catalogue x) (sym e) (record { catalogue = refl; made = λ some. absurd (some refl) })

  each_makes : (answers : List Answer) (s : StackState) → AreGiven s answers → queries_of s ≡ qs → Unrefused s.catalogue qs → EachMakes qs s.catalogue answers
  each_makes [] s are is u = tt
  each_makes (a ∷ answers) s are is u = (makes_one s a are.0 is u, each_makes answers a.stack are.1 (same_views s a are.0 ∙ is) (unrefused_then s a are.0 is u))

-- ---- a stack that was opened, and gave answers
module _ (old new : World) (t : Tree) (told : old.store.tree ≡ Some t) (whole : IsWhole t) (q0 : Query) (more : List Query) (profiles : AllByRecursion IsViewOfProfile (q0 ∷ more)) (once : first_repeated (map (λ (q : Query). q.view_db) (q0 ∷ more)) ≡ None)
    (c : CatalogueValue) (loaded : loaded_or_refused t ≡ Ok c) (judged : opening_refusal c (q0 ∷ more) ≡ None) where
  abbrev qs : List Query
  qs = q0 ∷ more

  abbrev s : StackState
  s = stack_at_first qs c

  apart : Apart (folder_names qs)
  apart = folders_apart qs once

  module _ (answers : List Answer) (are : AreGiven s answers) where
    abbrev saved : Synced
    saved = last_synced s (unsaved c) answers

    abbrev es : List Effect
    es = effects_so_far t qs c answers

    abbrev Others : List Exempt
    Others = folders_of qs ++ sources_of saved

    -- what is kept of the tree behind them
    record Ends : Type 0 where
      kept : IsKept t c q0 qs apart (stack_after s answers) saved (tree_after es t)
      counts : CountsAs es t (writes_so_far t qs c answers)

    ends : Ends
    ends =
        let first = opened_keeps t c q0 qs apart (loaded_is t c loaded) whole in
        let rest = answers_keep t c q0 qs apart (loaded_is t c loaded) whole answers s (unsaved c) (tree_after (opening_of t qs c) t) are first.kept in
        record {
          kept = subst (IsKept t c q0 qs apart (stack_after s answers) saved) (sym (tree_append (opening_of t qs c) (effects_by answers) t)) rest.kept;
          counts = counts_then (opening_of t qs c) (effects_by answers) t (opening_sum t c qs) (writes_by (tree_after (opening_of t qs c) t) s answers) first.counts rest.counts;
        }

    upheld : contents new ≡ performed es (contents old) → AreUpheld t qs c answers saved.catalogue saved old new
    unfolding contents
    upheld did =
        let first : Stored = record { tree = t; writes = old.store.writes } in
        let was : (contents old).stored ≡ Some first = ap (λ (x : Contents). x.stored) (contents_told old t told) in
        let left : (contents new).stored ≡ Some (stored_by es first) = ap (λ (x : Contents). x.stored) did ∙ stored_after es (contents old) first was in
        let stored = told_tree new.store.tree new.store.writes (stored_by es first) left in
        record {
          tree = tree_after es t;
          makes = each_makes qs profiles answers s are (views_synced c qs) (opening_unrefused c qs judged);
          told = stored.0;
          folders = ends.kept.folders;
          sources = sources_hold t c (loaded_is t c loaded) whole saved (tree_after es t) ends.kept.sources;
          others = stays_told Others t (contents new) (stored_by es first) left
              (subst (StaysIn Others t) (sym did) (performed_stays Others t es (contents old)
              (both_within Others (opening_of t qs c) (effects_by answers) (opening_within q0 more saved t c) (given_within q0 more saved answers s (unsaved c) are (views_synced c qs) (grows_itself saved))) (at_first_stays Others t old told)));
          writes = stored.1 ∙ ends.counts old.store.writes;
          printed = ap (λ (x : Contents). x.held) did ∙ printed_held es (contents old);
        }

  -- what is saved behind answers is this
  upheld_as : (answers : List Answer) (last : Synced) → AreGiven s answers → last_synced s (unsaved c) answers ≡ last → contents new ≡ performed (effects_so_far t qs c answers) (contents old) → AreUpheld t qs c answers last.catalogue last old new
  upheld_as answers last are is did = subst (λ (y : Synced). AreUpheld t qs c answers y.catalogue y old new) is (upheld answers are did)

  module _ (ds : List DefinitionOrRefusal) (accepted : all_accepted ds ≡ Ok qs) where
    maintained : (lines : List (List ℕ)) (v : Status) → Finished (first_course (opening_of t qs c) (course step finish s lines)) old new v → AreMaintained ds t lines old new v
    maintained lines v f = record {
      opened = record { queries = qs; catalogue = c; accepted = accepted; apart = once; loaded = loaded; unrefused = judged };
      last = stack_behind s lines;
      answered = lines_followed lines s;
      catalogue = given_catalogue (answers_to s lines) s (lines_given lines s (none_open s refl));
      upheld = upheld_as (all_answers s lines) (saved_at_end s lines) (all_given lines s (none_open s refl)) (all_saved lines s)
          (f.done ∙ ap (λ (gs : List Effect). performed (opening_of t qs c ++ gs) (contents old)) (sym (all_done lines s)));
      status = f.status ∙ ap (λ (e : Ending). verdict_status e.status) (course_is lines s);
    }

    -- where the input gave out behind the whole lines of what was taken
    cut_off : (bytes taken left : List ℕ) (rest : Option (List ℕ)) (effects : List Effect) → bytes ≡ taken ++ left → rest ≡ Some left
        → goes_so_far (opening_of t qs c) (follow step (whole_lines taken) (Continues [] s)) ≡ Some effects → contents new ≡ performed effects (contents old) → AreCutOff ds t bytes rest old new
    cut_off bytes taken left rest effects split remains meant done =
        let lines : List (List ℕ) = whole_lines taken in
        let same : effects ≡ effects_so_far t qs c (answers_to s lines) = same_some _ _ (sym meant ∙ ap (goes_so_far (opening_of t qs c)) (lines_followed lines s)) in
        record {
          opened = record { queries = qs; catalogue = c; accepted = accepted; apart = once; loaded = loaded; unrefused = judged };
          taken = taken;
          left = left;
          split = split;
          remains = remains;
          last = stack_behind s lines;
          answered = lines_followed lines s;
          upheld = upheld_as (answers_to s lines) (saved_behind s lines) (lines_given lines s (none_open s refl)) refl (done ∙ ap (λ (gs : List Effect). performed gs (contents old)) same);
        }

-- ---- the run of `stack`, by its course
no_effects : (es : List Effect) → ◌≡◌ {A = Option (List Effect)} None (Some es) → ⊥
no_effects es e = absurd (cc e)

module _ (names : List Text) (t : Tree) (ds : Text → DefinitionOrRefusal) (bytes : List ℕ) (rest : Option (List ℕ)) (old new : World) (v : Status) (d : DidOver names t ds bytes rest old new v) where
  abbrev defs : List DefinitionOrRefusal
  defs = map ds names

  some : defs ≢ []
  some = names_some names ds d.some

  profiles : (qs : List Query) → all_accepted defs ≡ Ok qs → AllByRecursion IsViewOfProfile qs
  profiles qs is = accepted_profiles names t ds d.defined qs is

  -- done
  module _ (done : is_done_status v ≡ true) where
    undone : (u : Status) → v ≡ u → is_done_status u ≡ false → ⊥
    undone u e off = true≢false (sym done ∙ ap is_done_status e ∙ off)

    done_levels : (q : Query) (above : List Query) (c : CatalogueValue) (o : Option LevelRefusal) → all_accepted defs ≡ Ok (q ∷ above) → first_repeated (map (λ (p : Query). p.view_db) (q ∷ above)) ≡ None → loaded_or_refused t ≡ Ok c → opening_refusal c (q ∷ above) ≡ o
        → Finished ((by_lines step finish (with_levels t (q ∷ above) c o)).whole (lines_of bytes)) old new v → AreMaintained defs t (lines_of bytes) old new v
    done_levels q above c (Some r) accepted once loaded judged f = absurd (undone status.NoView f.status refl)
    done_levels q above c None accepted once loaded judged f = maintained old new t d.told d.whole q above (profiles (q ∷ above) accepted) once c loaded judged defs accepted (lines_of bytes) v f

    done_catalogue : (q : Query) (above : List Query) (r : Result CatalogueValue Row) → all_accepted defs ≡ Ok (q ∷ above) → first_repeated (map (λ (p : Query). p.view_db) (q ∷ above)) ≡ None → loaded_or_refused t ≡ r
        → Finished ((by_lines step finish (with_catalogue t (q ∷ above) r)).whole (lines_of bytes)) old new v → AreMaintained defs t (lines_of bytes) old new v
    done_catalogue q above (Err fields) accepted once loaded f = absurd (undone status.BadCatalogue f.status refl)
    done_catalogue q above (Ok c) accepted once loaded f = done_levels q above c (opening_refusal c (q ∷ above)) accepted once loaded refl f

    done_databases : (q : Query) (above : List Query) (o : Option Text) → all_accepted defs ≡ Ok (q ∷ above) → first_repeated (map (λ (p : Query). p.view_db) (q ∷ above)) ≡ o
        → Finished ((by_lines step finish (with_databases t (q ∷ above) o)).whole (lines_of bytes)) old new v → AreMaintained defs t (lines_of bytes) old new v
    done_databases q above (Some db) accepted once f = absurd (undone status.BadDefinition f.status refl)
    done_databases q above None accepted once f = done_catalogue q above (loaded_or_refused t) accepted once refl f

    done_definitions : (r : Result (List Query) Row) → all_accepted defs ≡ r → Finished ((by_lines step finish (with_definitions t r)).whole (lines_of bytes)) old new v → AreMaintained defs t (lines_of bytes) old new v
    done_definitions (Err fields) accepted f = absurd (undone status.BadDefinition f.status refl)
    done_definitions (Ok []) accepted f = absurd (accepted_some defs some accepted)
    done_definitions (Ok (q ∷ above)) accepted f = done_databases q above (first_repeated (map (λ (p : Query). p.view_db) (q ∷ above))) accepted refl f

    pub did_stack : AreMaintained (map ds names) t (lines_of bytes) old new v
    did_stack = done_definitions (all_accepted defs) refl (done_finished (by_lines step finish (opening t defs)) bytes rest old new v done d.did)

  -- the input gave out
  cut_levels : (q : Query) (above : List Query) (c : CatalogueValue) (o : Option LevelRefusal) → all_accepted defs ≡ Ok (q ∷ above) → first_repeated (map (λ (p : Query). p.view_db) (q ∷ above)) ≡ None → loaded_or_refused t ≡ Ok c → opening_refusal c (q ∷ above) ≡ o
      → GaveOut (by_lines step finish (with_levels t (q ∷ above) c o)) bytes rest old new → AreCutOff defs t bytes rest old new
  cut_levels q above c (Some r) accepted once loaded judged g = absurd (no_effects g.effects g.meant)
  cut_levels q above c None accepted once loaded judged g =
      cut_off old new t d.told d.whole q above (profiles (q ∷ above) accepted) once c loaded judged defs accepted bytes g.taken g.left rest g.effects g.split g.remains g.meant g.done

  cut_catalogue : (q : Query) (above : List Query) (r : Result CatalogueValue Row) → all_accepted defs ≡ Ok (q ∷ above) → first_repeated (map (λ (p : Query). p.view_db) (q ∷ above)) ≡ None → loaded_or_refused t ≡ r
      → GaveOut (by_lines step finish (with_catalogue t (q ∷ above) r)) bytes rest old new → AreCutOff defs t bytes rest old new
  cut_catalogue q above (Err fields) accepted once loaded g = absurd (no_effects g.effects g.meant)
  cut_catalogue q above (Ok c) accepted once loaded g = cut_levels q above c (opening_refusal c (q ∷ above)) accepted once loaded refl g

  cut_databases : (q : Query) (above : List Query) (o : Option Text) → all_accepted defs ≡ Ok (q ∷ above) → first_repeated (map (λ (p : Query). p.view_db) (q ∷ above)) ≡ o → GaveOut (by_lines step finish (with_databases t (q ∷ above) o)) bytes rest old new → AreCutOff defs t bytes rest old new
  cut_databases q above (Some db) accepted once g = absurd (no_effects g.effects g.meant)
  cut_databases q above None accepted once g = cut_catalogue q above (loaded_or_refused t) accepted once refl g

  cut_definitions : (r : Result (List Query) Row) → all_accepted defs ≡ r → GaveOut (by_lines step finish (with_definitions t r)) bytes rest old new → AreCutOff defs t bytes rest old new
  cut_definitions (Err fields) accepted g = absurd (no_effects g.effects g.meant)
  cut_definitions (Ok []) accepted g = absurd (accepted_some defs some accepted)
  cut_definitions (Ok (q ∷ above)) accepted g = cut_databases q above (first_repeated (map (λ (p : Query). p.view_db) (q ∷ above))) accepted refl g

  cut_by : GaveOut (by_lines step finish (opening t defs)) bytes rest old new → AreCutOff defs t bytes rest old new
  cut_by g = cut_definitions (all_accepted defs) refl g

by_status : (names : List Text) (t : Tree) (ds : Text → DefinitionOrRefusal) (bytes : List ℕ) (rest : Option (List ℕ)) (old new : World) (v : Status) → (GaveOut (by_lines step finish (opening t (map ds names))) bytes rest old new → AreCutOff (map ds names) t bytes rest old new)
    → GaveOutStatus old new v → Did (by_lines step finish (opening t (map ds names))) bytes rest old new v → AreCutOff (map ds names) t bytes rest old new
by_status names t ds bytes rest old new status.ReadFault cut gave h = elim h [ inl read ↦ absurd (gave read.0) | inr g ↦ cut g ]
by_status names t ds bytes rest old new status.TooLong cut gave h = cut h.0
by_status names t ds bytes rest old new status.Done cut gave h = absurd gave
by_status names t ds bytes rest old new status.SomeRefused cut gave h = absurd gave
by_status names t ds bytes rest old new status.Usage cut gave h = absurd gave
by_status names t ds bytes rest old new status.BadDefinition cut gave h = absurd gave
by_status names t ds bytes rest old new status.BadCatalogue cut gave h = absurd gave
by_status names t ds bytes rest old new status.NoView cut gave h = absurd gave
by_status names t ds bytes rest old new status.WriteFault cut gave h = absurd gave
by_status names t ds bytes rest old new status.NoMemory cut gave h = absurd gave
by_status names t ds bytes rest old new status.DiskFault cut gave h = absurd gave
by_status names t ds bytes rest old new status.JournalFull cut gave h = absurd gave

pub did_stack_cut_off : (names : List Text) (t : Tree) (ds : Text → DefinitionOrRefusal) (bytes : List ℕ) (rest : Option (List ℕ)) (old new : World) (v : Status) → DidOver names t ds bytes rest old new v → GaveOutStatus old new v → AreCutOff (map ds names) t bytes rest old new
did_stack_cut_off names t ds bytes rest old new v d gave = by_status names t ds bytes rest old new v (cut_by names t ds bytes rest old new v d) gave d.did
