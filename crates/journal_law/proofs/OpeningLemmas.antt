-- The opening of a view with a journal is refused, or the view is opened over the catalogue after the journal.
use Rattle.std.proofs.Common.{◌≡◌, ◌+◌, ℕ, Bool, true, false, cond, List, [], ◌∷◌, Option, None, Some, is_some, refl, sym, ap, ◌∙◌, subst}
use Rattle.std.specs.Prelude.{Result, Ok, Err}
use Rattle.ss_text.specs.Texts.{Row}
use Rattle.outside.specs.Tree.{Tree}
use Rattle.schema_model.specs.Catalogue.{CatalogueValue}
use Rattle.schema_model.specs.Changes.{after_all}
use Rattle.schema_model.specs.Refusals.{group_fault}
use Rattle.course.specs.declared.status.Verdict.{Verdict}
use Rattle.course.specs.declared.status.Verdict.TheVariants as verdict
use Rattle.course.specs.Answering.{Reply, Continues}
use Rattle.change_journal.specs.Spelled.{Group}
use Rattle.change_journal.specs.Entries.{Reading, read_journal, only_groups, entries, size_of}
use Rattle.change_journal.proofs.Readings.{read_is}
use Rattle.journal_log.specs.declared.fault.JournalRefusal.{JournalRefusal}
use Rattle.journal_log.specs.Replay.{Replay, replayed_from, by_groups, by_reading, replayed}
use Rattle.course.specs.Course.{verdict_status, is_refused_status}
use Rattle.view_stages.specs.Opening.{with_view}
use Rattle.view_stages.specs.Stages.{Accepted, DefinitionOrRefusal, loaded_or_refused, refusal_of}
use Rattle.opened_view.specs.Steps.{starting}
use Rattle.upkeep_law.specs.Promises.{opening_of}
use Rattle.journal_answers.specs.declared.view.JournalView.{JournalView}
use Rattle.journal_answers.specs.Answers.{ended_at}
use Rattle.journal_answers.specs.Fields.{journal_fields}
use Rattle.journal_answers.specs.Opening.{halts, with_catalogue, with_journal, opening}
use Rattle.journal_law.specs.Promises.{after_groups, IsReplayed, journal_at_first}

-- groups that are made one after another
made_then : (b : Bool) (n : ℕ) (rest : Result CatalogueValue ℕ) (d : CatalogueValue) → cond b (Err n) rest ≡ Ok d → rest ≡ Ok d
made_then true n rest d e = absurd (cc e)
made_then false n rest d e = e

pub all_made : (groups : List Group) (n : ℕ) (c d : CatalogueValue) → replayed_from n c groups ≡ Ok d → d ≡ after_groups c groups
all_made [] n c d e = let same : c ≡ d = cc e in sym same
all_made (group ∷ groups) n c d e =
    all_made groups (n + 1) (after_all c group) d (made_then (is_some (group_fault c group)) n (replayed_from (n + 1) (after_all c group) groups) d e)

-- what a replayed journal holds: it ends where its groups do
pub record Holds (c : CatalogueValue) (held : List ℕ) (r : Replay) : Type 0 where
  pub groups : List Group
  pub are : entries held ≡ Ok groups
  pub made : replayed_from 1 c groups ≡ Ok r.catalogue
  pub ends : r.end ≡ size_of groups

pub replay_holds : (c : CatalogueValue) (held : List ℕ) (r : Replay) → replayed c held ≡ Ok r → Holds c held r
replay_holds c held r e = by_read (read_journal held) refl e
  where
    by_made : (read : Reading) → read_journal held ≡ Ok read → (x : Result CatalogueValue ℕ) → replayed_from 1 c read.groups ≡ x → by_groups read.end x ≡ Ok r → Holds c held r
    by_made read is (Err n) made e = absurd (cc e)
    by_made read is (Ok d) made e =
        let same : record { catalogue = d; end = read.end } ≡ r = cc e in
        let both : Ok read ≡ Ok (record { groups = read.groups; end = size_of read.groups }) = sym is ∙ read_is held read.groups (ap only_groups is) in
        let whole : read ≡ record { groups = read.groups; end = size_of read.groups } = cc both in
        subst (Holds c held) same (record { groups = read.groups; are = ap only_groups is; made = made; ends = ap (λ (x : Reading). x.end) whole })

    by_read : (x : Result Reading ℕ) → read_journal held ≡ x → by_reading c x ≡ Ok r → Holds c held r
    by_read (Err at) is e = absurd (cc e)
    by_read (Ok read) is e = by_made read is (replayed_from 1 c read.groups) refl e

-- what holds of a run that is refused, and of one whose view is opened, holds of the opening
module _ (t : Tree) (held : List ℕ) (d : DefinitionOrRefusal) (P : Reply JournalView → Type 0) (refused : (fields : Row) (v : Verdict) → is_refused_status (verdict_status v) ≡ true → P (halts fields v))
    (opened : (r : IsReplayed d t held) → P (Continues (opening_of t r.accepted.query r.replay.catalogue) (journal_at_first r))) where
  by_view : (a : Accepted) (c : CatalogueValue) (r : Replay) (x : Option Row) → d ≡ Ok a → loaded_or_refused t ≡ Ok c → replayed c held ≡ Ok r → refusal_of r.catalogue a.query ≡ x
      → P (starting (ended_at r.end) (with_view t a.query r.catalogue x))
  by_view a c r (Some fields) defined loads replays judged = refused fields verdict.NoView refl
  by_view a c r None defined loads replays judged =
      let h = replay_holds c held r replays in
      opened (record { accepted = a; loaded = c; replay = r; groups = h.groups; defined = defined; loads = loads; replays = replays; holds = h.are; catalogue = all_made h.groups 1 c r.catalogue h.made; unrefused = judged })

  by_journal : (a : Accepted) (c : CatalogueValue) (x : Result Replay JournalRefusal) → d ≡ Ok a → loaded_or_refused t ≡ Ok c → replayed c held ≡ x → P (with_journal t a.query x)
  by_journal a c (Err f) defined loads replays = refused (journal_fields f) verdict.BadCatalogue refl
  by_journal a c (Ok r) defined loads replays = by_view a c r (refusal_of r.catalogue a.query) defined loads replays refl

  by_catalogue : (a : Accepted) (x : Result CatalogueValue Row) → d ≡ Ok a → loaded_or_refused t ≡ x → P (with_catalogue t held a.query x)
  by_catalogue a (Err fields) defined loads = refused fields verdict.BadCatalogue refl
  by_catalogue a (Ok c) defined loads = by_journal a c (replayed c held) defined loads refl

  by_definition : (x : DefinitionOrRefusal) → d ≡ x → P (opening t held x)
  by_definition (Err fields) defined = refused fields verdict.BadDefinition refl
  by_definition (Ok a) defined = by_catalogue a (loaded_or_refused t) defined refl

  pub opening_case : P (opening t held d)
  opening_case = by_definition d refl
