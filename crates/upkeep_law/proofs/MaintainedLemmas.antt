-- A run of `maintain` that was done kept the view up to date, and one whose input gave out did so up to the last sync.
use Rattle.std.proofs.Common.{◌≡◌, ℕ, true, List, [], ◌++◌, Option, None, Some, refl, sym, ap, ◌∙◌, subst, inl, inr}
use Rattle.std.specs.Prelude.{Result, Ok, Err}
use Rattle.ss_text.specs.Texts.{Text, Row}
use Rattle.outside.specs.Tree.{Tree}
use Rattle.outside.specs.Whole.{IsWhole}
use Rattle.outside.specs.Effects.{Effect, World, contents, performed}
use Rattle.schema_model.specs.Catalogue.{CatalogueValue}
use Rattle.schema_model.proofs.ReadyLemmas.{same_some}
use Rattle.source_law.specs.Synced.{Synced, unsaved}
use Rattle.tab_lines.specs.Lines.{lines_of, whole_lines}
use Rattle.view_def.specs.Query.{Query}
use Rattle.view_def.specs.Profile.{IsViewOfProfile}
use Rattle.view_session.specs.Session.{opened}
use Rattle.course.specs.Answering.{Ending, Continues, course, follow}
use Rattle.course.specs.declared.exit.Status.{Status}
use Rattle.course.specs.declared.exit.Status.TheVariants as status
use Rattle.course.specs.Course.{Finished, Did, GaveOut, GaveOutStatus, by_lines, first as first_course, goes_so_far, verdict_status, is_done_status}
use Rattle.course.proofs.RunLemmas.{done_finished}
use Rattle.view_stages.specs.Open.{OpenValue, just_opened}
use Rattle.view_stages.specs.Stages.{DefinitionOrRefusal, Accepted, loaded_or_refused, refusal_of}
use Rattle.view_stages.specs.Opening.{IsDefinition, definition_bytes, opening, with_catalogue, with_view}
use Rattle.opened_view.specs.Answers.{Answer, answers_to, step, finish}
use Rattle.upkeep_law.specs.Given.{AreGiven}
use Rattle.upkeep_law.specs.Law.{IsStart}
use Rattle.upkeep_law.specs.Lists.{last_shown, last_synced}
use Rattle.upkeep_law.specs.Promises.{IsUpheld, IsMaintained, IsCutOff, opening_of, effects_so_far, view_behind, all_answers, saved_behind, saved_at_end}
use Rattle.upkeep_law.proofs.GroupLemmas.{no_group}
use Rattle.upkeep_law.proofs.LineLemmas.{lines_given, lines_followed, course_is, all_done, all_given, all_shown, all_synced, shown_is_saved}
use Rattle.upkeep_law.proofs.TakeLemmas.{definition_of_profile}
use Rattle.upkeep_law.proofs.UpheldLemmas.{answers_upheld}

-- a view that was opened, over lines
module _ (old new : World) (t : Tree) (told : old.store.tree ≡ Some t) (whole : IsWhole t) (a : Accepted) (p : IsViewOfProfile a.query) (c : CatalogueValue) (loaded : loaded_or_refused t ≡ Ok c) (judged : refusal_of c a.query ≡ None) (lines : List (List ℕ)) where
  abbrev q : Query
  q = a.query

  abbrev o : OpenValue
  o = just_opened q c

  start : IsStart true t q c c
  start = record { profile = p; loaded = loaded; whole = whole; same = λ on. refl; unrefused = judged }

  -- what is shown and saved behind answers is this
  upheld_as : (answers : List Answer) (shown : CatalogueValue) (saved : Synced) → AreGiven true o answers → last_shown o c answers ≡ shown → last_synced true o (unsaved c) answers ≡ saved
      → contents new ≡ performed (effects_so_far t q c answers) (contents old) → IsUpheld t q c answers shown saved old new
  upheld_as answers shown saved are shows saves did =
      subst (λ (x : CatalogueValue). IsUpheld t q c answers x saved old new) shows
      (subst (λ (y : Synced). IsUpheld t q c answers (last_shown o c answers) y old new) saves (answers_upheld true t q c c answers old new start are told did))

  maintained : (d : DefinitionOrRefusal) (s : Status) → d ≡ Ok a → Finished (first_course (opening_of t q c) (course step finish o lines)) old new s → IsMaintained d t lines old new s
  maintained d s defined f = record {
    opened = record { accepted = a; catalogue = c; defined = defined; loaded = loaded; unrefused = judged };
    last = view_behind o lines;
    answered = lines_followed lines o;
    upheld = upheld_as (all_answers o lines) (view_behind o lines).session.catalogue (saved_at_end o lines) (all_given lines o (no_group (opened q c) refl)) (all_shown lines o c) (all_synced lines o)
        (f.done ∙ ap (λ (es : List Effect). performed (opening_of t q c ++ es) (contents old)) (sym (all_done lines o)));
    status = f.status ∙ ap (λ (e : Ending). verdict_status e.status) (course_is lines o);
  }

-- where the input gave out behind the whole lines of what was taken
cut_off : (old new : World) (t : Tree) → old.store.tree ≡ Some t → IsWhole t → (d : DefinitionOrRefusal) (a : Accepted) → IsViewOfProfile a.query → (c : CatalogueValue) → d ≡ Ok a → loaded_or_refused t ≡ Ok c → refusal_of c a.query ≡ None → (bytes taken left : List ℕ) (rest : Option (List ℕ)) (effects : List Effect)
    → bytes ≡ taken ++ left → rest ≡ Some left → goes_so_far (opening_of t a.query c) (follow step (whole_lines taken) (Continues [] (just_opened a.query c))) ≡ Some effects → contents new ≡ performed effects (contents old) → IsCutOff d t bytes rest old new
cut_off old new t told whole d a p c defined loaded judged bytes taken left rest effects split remains meant done =
    let o : OpenValue = just_opened a.query c in
    let lines : List (List ℕ) = whole_lines taken in
    let same : effects ≡ effects_so_far t a.query c (answers_to o lines) = same_some _ _ (sym meant ∙ ap (goes_so_far (opening_of t a.query c)) (lines_followed lines o)) in
    record {
      opened = record { accepted = a; catalogue = c; defined = defined; loaded = loaded; unrefused = judged };
      taken = taken;
      left = left;
      split = split;
      remains = remains;
      last = view_behind o lines;
      answered = lines_followed lines o;
      upheld = upheld_as old new t told whole a p c loaded judged lines (answers_to o lines) (saved_behind o lines).catalogue (saved_behind o lines) (lines_given true lines o (no_group (opened a.query c) refl))
          (shown_is_saved (answers_to o lines) o (unsaved c)) refl (done ∙ ap (λ (es : List Effect). performed es (contents old)) same);
    }

module _ (old new : World) (t : Tree) (told : old.store.tree ≡ Some t) (whole : IsWhole t) (bytes : List ℕ) (s : Status) (done : is_done_status s ≡ true) (d : DefinitionOrRefusal) (p : (a : Accepted) → d ≡ Ok a → IsViewOfProfile a.query) where
  by_view : (a : Accepted) (c : CatalogueValue) (r : Option Row) → d ≡ Ok a → loaded_or_refused t ≡ Ok c → refusal_of c a.query ≡ r → Finished ((by_lines step finish (with_view t a.query c r)).whole (lines_of bytes)) old new s → IsMaintained d t (lines_of bytes) old new s
  by_view a c (Some fields) defined loaded judged f = absurd (cc (f.status))
  by_view a c None defined loaded judged f = maintained old new t told whole a (p a defined) c loaded judged (lines_of bytes) d s defined f

  by_catalogue : (a : Accepted) (r : Result CatalogueValue Row) → d ≡ Ok a → loaded_or_refused t ≡ r → Finished ((by_lines step finish (with_catalogue t a.query r)).whole (lines_of bytes)) old new s → IsMaintained d t (lines_of bytes) old new s
  by_catalogue a (Err fields) defined loaded f = absurd (cc (f.status))
  by_catalogue a (Ok c) defined loaded f = by_view a c (refusal_of c a.query) defined loaded refl f

  by_definition : (x : DefinitionOrRefusal) → d ≡ x → Finished ((by_lines step finish (opening t x)).whole (lines_of bytes)) old new s → IsMaintained d t (lines_of bytes) old new s
  by_definition (Err fields) is f = absurd (cc (f.status))
  by_definition (Ok a) is f = by_catalogue a (loaded_or_refused t) is refl f

  finished_maintained : Finished ((by_lines step finish (opening t d)).whole (lines_of bytes)) old new s → IsMaintained d t (lines_of bytes) old new s
  finished_maintained f = by_definition d refl f

pub profile_of : (name : Text) (t : Tree) (d : DefinitionOrRefusal) → IsDefinition name (definition_bytes t name) d → (a : Accepted) → d ≡ Ok a → IsViewOfProfile a.query
profile_of name t d defined a is = definition_of_profile name (definition_bytes t name) a (subst (IsDefinition name (definition_bytes t name)) is defined)

-- the run of `maintain` by its course
pub did_maintain : (name : Text) (t : Tree) (bytes : List ℕ) (d : DefinitionOrRefusal) (rest : Option (List ℕ)) (old new : World) (s : Status) → IsDefinition name (definition_bytes t name) d → old.store.tree ≡ Some t → IsWhole t → is_done_status s ≡ true → Did (by_lines step finish (opening t d)) bytes rest old new s → IsMaintained d t (lines_of bytes) old new s
did_maintain name t bytes d rest old new s defined told whole done h = finished_maintained old new t told whole bytes s done d (profile_of name t d defined) (done_finished (by_lines step finish (opening t d)) bytes rest old new s done h)

-- where its input gave out, by its course
module _ (old new : World) (t : Tree) (told : old.store.tree ≡ Some t) (whole : IsWhole t) (bytes : List ℕ) (rest : Option (List ℕ)) (d : DefinitionOrRefusal) (p : (a : Accepted) → d ≡ Ok a → IsViewOfProfile a.query) where
  cut_view : (a : Accepted) (c : CatalogueValue) (r : Option Row) → d ≡ Ok a → loaded_or_refused t ≡ Ok c → refusal_of c a.query ≡ r → GaveOut (by_lines step finish (with_view t a.query c r)) bytes rest old new → IsCutOff d t bytes rest old new
  cut_view a c (Some fields) defined loaded judged g = absurd (cc (g.meant))
  cut_view a c None defined loaded judged g = cut_off old new t told whole d a (p a defined) c defined loaded judged bytes g.taken g.left rest g.effects g.split g.remains g.meant g.done

  cut_catalogue : (a : Accepted) (r : Result CatalogueValue Row) → d ≡ Ok a → loaded_or_refused t ≡ r → GaveOut (by_lines step finish (with_catalogue t a.query r)) bytes rest old new → IsCutOff d t bytes rest old new
  cut_catalogue a (Err fields) defined loaded g = absurd (cc (g.meant))
  cut_catalogue a (Ok c) defined loaded g = cut_view a c (refusal_of c a.query) defined loaded refl g

  cut_definition : (x : DefinitionOrRefusal) → d ≡ x → GaveOut (by_lines step finish (opening t x)) bytes rest old new → IsCutOff d t bytes rest old new
  cut_definition (Err fields) is g = absurd (cc (g.meant))
  cut_definition (Ok a) is g = cut_catalogue a (loaded_or_refused t) is refl g

  cut_by : GaveOut (by_lines step finish (opening t d)) bytes rest old new → IsCutOff d t bytes rest old new
  cut_by g = cut_definition d refl g

  did_give_out : (name : Text) (s : Status) → GaveOutStatus old new s → Did (by_lines step finish (opening t d)) bytes rest old new s → IsCutOff d t bytes rest old new
  did_give_out name status.ReadFault gave h = elim h [ inl read ↦ absurd (gave read.0) | inr g ↦ cut_by g ]
  did_give_out name status.TooLong gave h = cut_by h.0
  did_give_out name status.Done gave h = absurd gave
  did_give_out name status.SomeRefused gave h = absurd gave
  did_give_out name status.Usage gave h = absurd gave
  did_give_out name status.BadDefinition gave h = absurd gave
  did_give_out name status.BadCatalogue gave h = absurd gave
  did_give_out name status.NoView gave h = absurd gave
  did_give_out name status.WriteFault gave h = absurd gave
  did_give_out name status.NoMemory gave h = absurd gave
  did_give_out name status.DiskFault gave h = absurd gave
  did_give_out name status.JournalFull gave h = absurd gave

pub did_cut_off : (name : Text) (t : Tree) (bytes : List ℕ) (d : DefinitionOrRefusal) (rest : Option (List ℕ)) (old new : World) (s : Status) → IsDefinition name (definition_bytes t name) d → old.store.tree ≡ Some t → IsWhole t → GaveOutStatus old new s → Did (by_lines step finish (opening t d)) bytes rest old new s → IsCutOff d t bytes rest old new
did_cut_off name t bytes d rest old new s defined told whole gave h = did_give_out old new t told whole bytes rest d (profile_of name t d defined) name s gave h
