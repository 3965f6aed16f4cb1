-- A view with a journal changes its own files, and no others.
use Rattle.std.proofs.Common.{inl, inr, ℕ, false, List, [], ◌∷◌, ◌++◌, refl, sym, subst}
use Rattle.outside.specs.Tree.{Tree}
use Rattle.outside.specs.Effects.{Effect}
use Rattle.source_law.specs.Synced.{Synced, unsaved}
use Rattle.view_session.specs.Session.{opened}
use Rattle.course.specs.Answering.{Continues, Ending, course}
use Rattle.course.specs.Course.{by_lines}
use Rattle.view_stages.specs.Open.{OpenValue}
use Rattle.view_stages.specs.Opened.{folder_of, view_exempt}
use Rattle.view_stages.specs.Places.{Exempt, CsvFiles}
use Rattle.view_stages.specs.Stages.{DefinitionOrRefusal}
use Rattle.view_stages.proofs.PlaceLemmas.{AllWithin}
use Rattle.view_stages.proofs.WithinLemmas.{both_within, Grows, grows_itself, opened_within}
use Rattle.opened_view.specs.Answers.{Answer}
use Rattle.upkeep_law.specs.Given.{AreGiven}
use Rattle.upkeep_law.specs.Lists.{effects_by}
use Rattle.upkeep_law.specs.Promises.{opening_of}
use Rattle.upkeep_law.proofs.GroupLemmas.{no_group}
use Rattle.upkeep_law.proofs.LineLemmas.{lines_given}
use Rattle.upkeep_law.proofs.WithinLemmas.{given_within}
use Rattle.journal_answers.specs.declared.view.JournalView.{JournalView}
use Rattle.journal_answers.specs.Answers.{step, finish}
use Rattle.journal_answers.specs.Opening.{opening}
use Rattle.journal_law.specs.Promises.{IsReplayed, view_at_first, journal_at_first, answers_to, all_answers}
use Rattle.journal_law.proofs.LineLemmas.{fit_or_full, course_full, none_saved, all_given, all_done}
use Rattle.journal_law.proofs.OpeningLemmas.{opening_case}

module _ (t : Tree) (held : List ℕ) (d : DefinitionOrRefusal) (lines : List (List ℕ)) where
  module _ (r : IsReplayed d t held) where
    abbrev own : List Exempt
    own = CsvFiles (folder_of r.accepted) ∷ []

    abbrev o : OpenValue
    o = view_at_first r

    abbrev f : JournalView
    f = journal_at_first r

    answers_within : (answers : List Answer) → AreGiven false o answers → AllWithin own (effects_by answers)
    answers_within answers are =
        let none : Synced = unsaved r.loaded in
        given_within r.accepted.query none false answers o none are refl (subst (λ (y : Synced). Grows y none) (sym (none_saved answers o none)) (grows_itself none))

    course_within : AllWithin own (course step finish f lines).effects
    course_within = elim (fit_or_full lines f) [
      | inl fit ↦ subst (AllWithin own) (all_done lines f fit) (answers_within (all_answers o lines) (all_given lines o (no_group (opened r.accepted.query r.replay.catalogue) refl)))
      | inr n ↦
          subst (λ (e : Ending). AllWithin own e.effects) (sym (course_full lines f n)) (answers_within (answers_to o n.before) (lines_given false n.before o (no_group (opened r.accepted.query r.replay.catalogue) refl)))
    ]

    view_within : AllWithin (view_exempt d ++ []) ((by_lines step finish (Continues (opening_of t r.accepted.query r.replay.catalogue) f)).whole lines).effects
    view_within =
        let es : List Effect = opening_of t r.accepted.query r.replay.catalogue in
        subst (λ (x : DefinitionOrRefusal). AllWithin (view_exempt x ++ []) (es ++ (course step finish f lines).effects)) (sym r.defined)
        (both_within own es (course step finish f lines).effects (opened_within t r.accepted r.replay.catalogue []) course_within)

  pub journal_within : AllWithin (view_exempt d ++ []) ((by_lines step finish (opening t held d)).whole lines).effects
  journal_within = opening_case t held d (λ x. AllWithin (view_exempt d ++ []) ((by_lines step finish x).whole lines).effects) (λ fields v refused. (tt, tt)) view_within
