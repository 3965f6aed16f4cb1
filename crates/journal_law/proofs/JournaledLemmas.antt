-- A run of `journal` that was done kept the view up to date with its journal, and one that stopped before its end did so up to the last sync.
use Rattle.std.proofs.Common.{◌≡◌, inl, inr, ℕ, Bool, true, false, List, [], ◌++◌, Option, None, Some, refl, sym, ap, ◌∙◌, subst}
use Rattle.std.specs.Prelude.{Ok, if◌then◌else◌}
use Rattle.std.proofs.lemmas.Bool.{false≢true}
use Rattle.outside.specs.Tree.{Tree}
use Rattle.outside.specs.Whole.{IsWhole}
use Rattle.outside.specs.Effects.{Effect, World, contents, performed}
use Rattle.schema_model.specs.Catalogue.{CatalogueValue}
use Rattle.schema_model.proofs.ReadyLemmas.{same_some}
use Rattle.source_law.specs.Synced.{Synced, unsaved, SourcesHold}
use Rattle.tab_lines.specs.Lines.{lines_of, whole_lines}
use Rattle.view_def.specs.Query.{Query}
use Rattle.view_def.specs.Profile.{IsViewOfProfile}
use Rattle.view_session.specs.Session.{opened}
use Rattle.course.specs.declared.status.Verdict.{Verdict}
use Rattle.course.specs.declared.status.Verdict.TheVariants as verdict
use Rattle.course.specs.Answering.{Reply, Ending, Continues, Finishes, course, follow}
use Rattle.course.specs.declared.exit.Status.{Status}
use Rattle.course.specs.declared.exit.Status.TheVariants as status
use Rattle.course.specs.Course.{Finished, GaveOut, HeldUp, by_lines, first as first_course, goes_so_far, verdict_status, is_done_status, is_refused_status}
use Rattle.view_stages.specs.Open.{OpenValue}
use Rattle.view_stages.specs.Stages.{DefinitionOrRefusal, Accepted, by_loading, loaded_or_refused}
use Rattle.opened_view.specs.Answers.{Answer, end_view}
use Rattle.upkeep_law.specs.Given.{AreGiven}
use Rattle.upkeep_law.specs.Lists.{last_shown}
use Rattle.upkeep_law.specs.Promises.{IsUpheld, opening_of, effects_so_far}
use Rattle.upkeep_law.proofs.GroupLemmas.{no_group}
use Rattle.upkeep_law.proofs.LineLemmas.{lines_given}
use Rattle.upkeep_law.proofs.MaintainedLemmas.{profile_of}
use Rattle.upkeep_law.proofs.UpheldLemmas.{answers_upheld}
use Rattle.journal_answers.specs.declared.view.JournalView.{JournalView}
use Rattle.journal_answers.specs.Answers.{step, finish}
use Rattle.journal_answers.specs.Opening.{opening}
use Rattle.journal_law.specs.Law.{DoneIsJournaled, CutOffIsJournaled, HeldUpIsJournaled, FullIsJournaled}
use Rattle.journal_law.specs.Promises.{IsReplayed, view_at_first, journal_at_first, answers_to, all_answers, catalogue_behind, AreJournaled, AreAnswered, IsJournaled, IsJournalCutOff, IsJournalStopped, IsJournalFull}
use Rattle.journal_law.proofs.DidLemmas.{journal_done, journal_gave_out}
use Rattle.journal_law.proofs.LineLemmas.{journal_behind, view_is, AllFit, lines_followed, course_is, fit_or_full, course_full, all_fit, noted_is, catalogue_is, none_saved, all_given, all_shown, all_done}
use Rattle.journal_law.proofs.OpeningLemmas.{opening_case}

-- sources of which none was saved are those of the opening
sources_stay : (c : CatalogueValue) (t u : Tree) → SourcesHold (unsaved c) t u → loaded_or_refused u ≡ Ok c
unfolding loaded_or_refused
sources_stay c t u h = ap by_loading (h.loads (record { plain = λ p r among. absurd (false≢true among); emptied = λ db among. absurd (false≢true among) }))

-- a run that was refused was not done
refused_undone : (v : Verdict) → is_refused_status (verdict_status v) ≡ true → is_done_status (verdict_status v) ≡ false
refused_undone verdict.Done h = absurd (cc h)
refused_undone verdict.SomeRefused h = absurd (cc h)
refused_undone verdict.Usage h = refl
refused_undone verdict.BadDefinition h = refl
refused_undone verdict.BadCatalogue h = refl
refused_undone verdict.NoView h = refl
refused_undone verdict.JournalFull h = refl

-- and one that came to the end of its input has a journal that is not full
end_not_full : {A : Type 0} (b : Bool) → status.JournalFull ≡ verdict_status (if b then verdict.SomeRefused else verdict.Done) → A
end_not_full true e = absurd (cc e)
end_not_full false e = absurd (cc e)

-- a view that was opened
module _ (old new : World) (t : Tree) (told : old.store.tree ≡ Some t) (whole : IsWhole t) (held : List ℕ) (d : DefinitionOrRefusal) (profile : (a : Accepted) → d ≡ Ok a → IsViewOfProfile a.query) where
  module _ (r : IsReplayed d t held) where
    abbrev q : Query
    q = r.accepted.query

    abbrev c : CatalogueValue
    c = r.replay.catalogue

    abbrev o : OpenValue
    o = view_at_first r

    abbrev f : JournalView
    f = journal_at_first r

    -- over lines for which there is room, and answers of which this is shown
    journaled : (lines : List (List ℕ)) → AllFit f lines → (answers : List Answer) (shown : CatalogueValue) → AreGiven false o answers → last_shown o c answers ≡ shown → contents new ≡ performed (effects_so_far t q c answers) (contents old)
        → AreJournaled r lines answers shown old new
    journaled lines fit answers shown are shows did =
        let upheld : IsUpheld t q c answers shown (unsaved r.loaded) old new =
        subst (λ (x : CatalogueValue). IsUpheld t q c answers x (unsaved r.loaded) old new) shows
        (subst (λ (y : Synced). IsUpheld t q c answers (last_shown o c answers) y old new) (none_saved answers o (unsaved r.loaded))
        (answers_upheld false t q r.loaded c answers old new
        (record { profile = profile r.accepted r.defined; loaded = r.loads; whole = whole; same = λ saves. absurd (false≢true saves); unrefused = r.unrefused }) are told did)) in
        record {
          last = journal_behind f lines;
          answered = lines_followed lines [] f fit;
          kept = noted_is lines [] f fit;
          catalogue = ap (λ (p : OpenValue). p.session.catalogue) (view_is lines f) ∙ catalogue_is lines o;
          upheld = upheld;
          sources = sources_stay r.loaded t upheld.tree upheld.sources;
        }

    -- their answers, and nothing else
    answered : (lines : List (List ℕ)) → AllFit f lines → contents new ≡ performed (effects_so_far t q c (answers_to o lines)) (contents old) → AreAnswered r lines old new
    answered lines fit did = journaled lines fit (answers_to o lines) (last_shown o c (answers_to o lines)) (lines_given false lines o (no_group (opened q c) refl)) refl did

    answered_so_far : (lines : List (List ℕ)) (effects : List Effect) → goes_so_far (opening_of t q c) (follow step lines (Continues [] f)) ≡ Some effects → contents new ≡ performed effects (contents old) → AreAnswered r lines old new
    answered_so_far lines effects meant done = by_reply (follow step lines (Continues [] f)) refl
      where
        by_reply : (x : Reply JournalView) → follow step lines (Continues [] f) ≡ x → AreAnswered r lines old new
        by_reply (Finishes es v) is = let none : None ≡ Some effects = sym (ap (goes_so_far (opening_of t q c)) is) ∙ meant in absurd (cc none)
        by_reply (Continues es g) is =
            let fit = all_fit lines f g [] es is in
            let same : effects ≡ effects_so_far t q c (answers_to o lines) = same_some _ _ (sym meant ∙ ap (goes_so_far (opening_of t q c)) (lines_followed lines [] f fit)) in
            answered lines fit (done ∙ ap (λ (fs : List Effect). performed fs (contents old)) same)

    module _ (lines : List (List ℕ)) (s : Status) (e : Finished (first_course (opening_of t q c) (course step finish f lines)) old new s) where
      done_journaled : is_done_status s ≡ true → IsJournaled d t held lines old new s
      unfolding journaled
      done_journaled done = elim (fit_or_full lines f) [
        | inl fit ↦ record {
          replayed = r;
          done = journaled lines fit (all_answers o lines) (catalogue_behind r lines) (all_given lines o (no_group (opened q c) refl)) (all_shown lines o c ∙ catalogue_is lines o)
              (e.done ∙ ap (λ (es : List Effect). performed (opening_of t q c ++ es) (contents old)) (sym (all_done lines f fit)));
          status = e.status ∙ ap (λ (x : Ending). verdict_status x.status) (course_is lines f fit);
        }
        | inr n ↦ absurd (false≢true (sym (ap is_done_status (e.status ∙ ap (λ (x : Ending). verdict_status x.status) (course_full lines f n))) ∙ done))
      ]

      full_journaled : s ≡ status.JournalFull → IsJournalFull d t held lines old new
      unfolding answered journaled
      full_journaled full = elim (fit_or_full lines f) [
        | inl fit ↦ end_not_full (end_view (journal_behind f lines).view).refused (sym full ∙ e.status ∙ ap (λ (x : Ending). verdict_status x.status) (course_is lines f fit))
        | inr n ↦ record {
          stopped = record {
            replayed = r;
            before = n.before;
            line = n.line;
            more = n.more;
            are = n.are;
            done = answered n.before n.fit (e.done ∙ ap (λ (x : Ending). performed (opening_of t q c ++ x.effects) (contents old)) (course_full lines f n));
          };
          full = n.full;
        }
      ]

  -- by the course of the run
  module _ (bytes : List ℕ) where
    pub finished_journaled : (s : Status) → is_done_status s ≡ true → Finished ((by_lines step finish (opening t held d)).whole (lines_of bytes)) old new s → IsJournaled d t held (lines_of bytes) old new s
    finished_journaled s done = opening_case t held d (λ x. Finished ((by_lines step finish x).whole (lines_of bytes)) old new s → IsJournaled d t held (lines_of bytes) old new s)
        (λ fields v refused e. absurd (false≢true (sym (ap is_done_status e.status ∙ refused_undone v refused) ∙ done))) (λ r e. done_journaled r (lines_of bytes) s e done)

    pub full_at_line : Finished ((by_lines step finish (opening t held d)).whole (lines_of bytes)) old new status.JournalFull → IsJournalFull d t held (lines_of bytes) old new
    full_at_line = opening_case t held d (λ x. Finished ((by_lines step finish x).whole (lines_of bytes)) old new status.JournalFull → IsJournalFull d t held (lines_of bytes) old new)
        (λ fields v refused e. absurd (false≢true (ap is_refused_status e.status ∙ refused))) (λ r e. full_journaled r (lines_of bytes) status.JournalFull e refl)

    pub held_up_at_line : HeldUp (by_lines step finish (opening t held d)) bytes old new → IsJournalStopped d t held (lines_of bytes) old new
    held_up_at_line = opening_case t held d (λ x. HeldUp (by_lines step finish x) bytes old new → IsJournalStopped d t held (lines_of bytes) old new)
        (λ fields v refused g. absurd (cc (g.meant))) (λ r g. record { replayed = r; before = g.answered; line = g.line; more = g.more; are = g.are; done = answered_so_far r g.answered g.effects g.meant g.done })

    pub gave_out_journaled : (rest : Option (List ℕ)) → GaveOut (by_lines step finish (opening t held d)) bytes rest old new → IsJournalCutOff d t held bytes rest old new
    gave_out_journaled rest = opening_case t held d (λ x. GaveOut (by_lines step finish x) bytes rest old new → IsJournalCutOff d t held bytes rest old new)
        (λ fields v refused g. absurd (cc (g.meant)))
        (λ r g. record { replayed = r; taken = g.taken; left = g.left; split = g.split; remains = g.remains; done = answered_so_far r (whole_lines g.taken) g.effects g.meant g.done })

-- the laws
pub did_journal : DoneIsJournaled
did_journal name t held d bytes rest old new s did done =
    finished_journaled old new t did.1 did.2 held d (profile_of name t d did.0) bytes s done (journal_done (by_lines step finish (opening t held d)) bytes rest old new s done did.3)

pub did_journal_cut_off : CutOffIsJournaled
did_journal_cut_off name t held d bytes rest old new s did gave =
    gave_out_journaled old new t did.1 did.2 held d (profile_of name t d did.0) bytes rest (journal_gave_out (by_lines step finish (opening t held d)) bytes rest old new s gave did.3)

pub did_journal_held_up : HeldUpIsJournaled
did_journal_held_up name t held d bytes rest old new did = elim did.3 [ inl none ↦ inl none | inr g ↦ inr (held_up_at_line old new t did.1 did.2 held d (profile_of name t d did.0) bytes g) ]

pub did_journal_full : FullIsJournaled
did_journal_full name t held d bytes rest old new did = full_at_line old new t did.1 did.2 held d (profile_of name t d did.0) bytes did.3
