-- What is kept of lines is replayed to the catalogue that they made.
use Rattle.std.proofs.Common.{◌≡◌, ◌+◌, ◌<◌, ◌≤◌, ℕ, Bool, true, false, List, [], ◌∷◌, ◌++◌, length, map, Option, None, Some, is_some, refl, sym, ap, ◌∙◌, subst, append_assoc, append-nil, arith}
use Rattle.std.specs.Prelude.{Result, Ok, Err, IsTrue}
use Rattle.std.specs.List.{AllByRecursion}
use Rattle.tab_lines.specs.Parts.{parts_at}
use Rattle.outside.specs.Tree.{Tree}
use Rattle.disk.specs.Disk.{Content, DiskState, MayLeave}
use Rattle.outside.specs.Effects.{Effect}
use Rattle.schema_model.specs.Catalogue.{CatalogueValue}
use Rattle.schema_model.specs.Changes.{after_all, is_well_formed}
use Rattle.schema_model.specs.Refusals.{group_fault}
use Rattle.view_def.specs.Query.{Query}
use Rattle.view_session.specs.Session.{opened}
use Rattle.course.specs.declared.status.Verdict.TheVariants as verdict
use Rattle.course.specs.Answering.{Continues, prefixed}
use Rattle.course.specs.Keeping.{Entry, LeavesNow, HasFront, noted}
use Rattle.course.proofs.KeepingLemmas.{noted_none}
use Rattle.change_journal.specs.Spelled.{Group, spelled, group_text, said_by_lines, group_of}
use Rattle.change_journal.specs.States.{JournalState}
use Rattle.change_journal.specs.Entries.{entries, size_of}
use Rattle.change_journal.specs.Lines.{lines_in, read_lines}
use Rattle.change_journal.proofs.Appends.{self_image}
use Rattle.change_journal.proofs.LineLemmas.{AllSaid, IsSaid, entries_said, same_groups}
use Rattle.change_journal.proofs.Readings.{read_is}
use Rattle.change_journal.proofs.Spellings.{parts_clear, lines_spelled, group_read}
use Rattle.journal_log.specs.Logs.{log_of}
use Rattle.journal_log.specs.Replay.{replayed_from, by_groups, by_reading}
use Rattle.journal_log.specs.Room.{groups_of, grown, appended_by}
use Rattle.journal_log.proofs.LogLemmas.{spellable, lines_append}
use Rattle.journal_log.proofs.ReplayLemmas.{replayed_more}
use Rattle.view_stages.specs.Open.{just_opened}
use Rattle.view_stages.specs.Stages.{DefinitionOrRefusal, loaded_or_refused, refusal_of}
use Rattle.upkeep_law.proofs.GivenLemmas.{first_query, first_unrefused}
use Rattle.upkeep_law.proofs.GroupLemmas.{IsGroup, no_group}
use Rattle.upkeep_law.proofs.LineLemmas.{lines_given}
use Rattle.journal_answers.specs.declared.view.JournalView.{JournalView}
use Rattle.journal_answers.specs.Answers.{answer, made, by_room, step, note, ended_at}
use Rattle.journal_answers.proofs.MadeLemmas.{line_grows}
use Rattle.journal_law.specs.Law.{KeptAreMade}
use Rattle.journal_law.specs.Promises.{IsReplayed, journal_at_first, OpensAgain}
use Rattle.journal_law.proofs.LineLemmas.{answered, journal_behind, lacks, AllFit, lines_followed, noted_fits}
use Rattle.journal_law.proofs.MakeLemmas.{line_makes}
use Rattle.journal_law.proofs.OpeningLemmas.{all_made, replay_holds}

-- changes that lines say are what their lines say
lines_say : (group : Group) → 0 < length group → AllByRecursion (λ g. IsTrue (is_well_formed g)) group → IsSaid group
lines_say group some formed =
    let read : group_of (group_text group) ≡ Some group = group_read group (spellable group some formed) in
    ap said_by_lines (sym (lines_spelled (parts_at 10 (group_text group)) group (parts_clear (group_text group)) read).0) ∙ read

-- groups take a catalogue to that of a view, and its journal ends where they do
record Stands (c : CatalogueValue) (q : Query) (f : JournalView) (groups : List Group) : Type 0 where
  pub made : replayed_from 1 c groups ≡ Ok f.view.session.catalogue
  pub said : AllSaid groups
  pub ends : f.journal.end ≡ size_of groups
  pub group : IsGroup f.view.session
  pub unrefused : refusal_of f.view.session.catalogue f.view.session.query ≡ None
  pub query : f.view.session.query ≡ q

-- with the changes of one line more
made_more : (groups : List Group) (c d : CatalogueValue) (group : Group) → replayed_from 1 c groups ≡ Ok d → group_fault d group ≡ None → replayed_from 1 c (groups ++ groups_of group) ≡ Ok (after_all d group)
made_more groups c d [] e fits = ap (replayed_from 1 c) (append-nil groups) ∙ e
made_more groups c d (g ∷ gs) e fits = replayed_more groups 1 c d (g ∷ gs) e (ap is_some fits)

said_more : (groups : List Group) (group : Group) → AllSaid groups → AllByRecursion (λ g. IsTrue (is_well_formed g)) group → AllSaid (groups ++ groups_of group)
said_more [] [] h formed = tt
said_more [] (g ∷ gs) h formed = (lines_say (g ∷ gs) (omega arith) formed, tt)
said_more (first ∷ groups) group h formed = (h.0, said_more groups group h.1 formed)

size_more : (groups : List Group) (group : Group) → size_of groups + 5 + length (group_text group) ≡ size_of (groups ++ group ∷ [])
size_more [] group = omega arith
size_more (first ∷ groups) group = let rest = size_more groups group in omega (arith, rest)

ends_more : (groups : List Group) (group : Group) (j : JournalState) → j.end ≡ size_of groups → (grown group j).end ≡ size_of (groups ++ groups_of group)
ends_more groups [] j e = e ∙ ap size_of (sym (append-nil groups))
ends_more groups (g ∷ gs) j e = ap (λ (n : ℕ). n + 5 + length (group_text (g ∷ gs))) e ∙ size_more groups (g ∷ gs)

module _ (c : CatalogueValue) (q : Query) where
  stands_more : (f : JournalView) (groups : List Group) (line : List ℕ) → Stands c q f groups → Stands c q (answered f line) (groups ++ groups_of (made f.view line))
  stands_more f groups line h =
      let makes = line_makes f.view h.group line in
      let may = (lines_given false (line ∷ []) f.view h.group).0 in
      record {
        made = made_more groups c f.view.session.catalogue (made f.view line) h.made makes.accepted ∙ ap (λ (d : CatalogueValue). Ok d) (sym (line_grows f.view line));
        said = said_more groups (made f.view line) h.said makes.formed;
        ends = ends_more groups (made f.view line) f.journal h.ends;
        group = makes.group;
        unrefused = first_unrefused false f.view (answer f.view line) may h.unrefused;
        query = first_query false f.view (answer f.view line) may ∙ h.query;
      }

  -- a front of what lines keep is all that some first lines of them keep, behind which these groups stand
  record IsFound (gs : List Group) (lines : List (List ℕ)) (es : List Effect) (f : JournalView) (front : List Entry) : Type 0 where
    pub before : List (List ℕ)
    pub later : List (List ℕ)
    pub are : lines ≡ before ++ later
    pub fit : AllFit f before
    pub kept : noted step note before (Continues es f) ≡ front
    pub stands : Stands c q (journal_behind f before) gs

  module _ (gs : List Group) (said : AllSaid gs) where
    abbrev Finds : List (List ℕ) → Type 0
    Finds lines = (es : List Effect) (f : JournalView) (groups : List Group) (front rest : List Entry) → Stands c q f groups → noted step note lines (Continues es f) ≡ front ++ rest → lines_in gs ≡ lines_in groups ++ front → IsFound gs lines es f front

    found_none : (lines : List (List ℕ)) (es : List Effect) (f : JournalView) (groups : List Group) → Stands c q f groups → lines_in gs ≡ lines_in groups ++ [] → IsFound gs lines es f []
    found_none lines es f groups h read =
        let same : gs ≡ groups = same_groups gs groups said h.said (read ∙ append-nil (lines_in groups)) in
        record { before = []; later = lines; are = refl; fit = tt; kept = refl; stands = subst (Stands c q f) (sym same) h }

    -- the entry of a line, where it keeps one
    found_behind : (lines : List (List ℕ)) → Finds lines → (es : List Effect) (f : JournalView) (groups : List Group) (group : Group) (x : Entry) (front rest : List Entry) → Stands c q f (groups ++ groups_of group)
        → lines_in (groups_of group) ++ noted step note lines (Continues es f) ≡ x ∷ (front ++ rest) → lines_in gs ≡ lines_in groups ++ x ∷ front → (later : List Entry) × (lines_in (groups_of group) ++ later ≡ x ∷ front) × IsFound gs lines es f later
    found_behind lines below es f groups [] x front rest h is read =
        (x ∷ front, refl, below es f (groups ++ []) (x ∷ front) rest h is (read ∙ ap (λ (ms : List Group). lines_in ms ++ x ∷ front) (sym (append-nil groups))))
    found_behind lines below es f groups (g ∷ more) x front rest h is read =
        let group : Group = g ∷ more in
        let first : map spelled group ≡ x = cc is in
        let behind : noted step note lines (Continues es f) ≡ front ++ rest = cc is in
        let all : lines_in groups ++ x ∷ front ≡ lines_in (groups ++ group ∷ []) ++ front =
        ap (λ (y : Entry). lines_in groups ++ y ∷ front) (sym first) ∙ sym (append_assoc (lines_in groups) (map spelled group ∷ []) front) ∙ ap (λ (ls : List Entry). ls ++ front) (sym (lines_append groups (group ∷ []))) in
        (front, ap (λ (y : Entry). y ∷ front) first, below es f (groups ++ group ∷ []) front rest h behind (read ∙ all))

    found_line : (line : List ℕ) (lines : List (List ℕ)) → Finds lines → (es : List Effect) (f : JournalView) (groups : List Group) (x : Entry) (front rest : List Entry) → Stands c q f groups
        → noted step note (line ∷ lines) (Continues es f) ≡ x ∷ (front ++ rest) → lines_in gs ≡ lines_in groups ++ x ∷ front → IsFound gs (line ∷ lines) es f (x ∷ front)
    found_line line lines below es f groups x front rest h is read = by_lacks (lacks f line) refl
      where
        none : lacks f line ≡ true → noted step note (line ∷ lines) (Continues es f) ≡ []
        none full =
            ap (λ (b : Bool). lines_in (appended_by (made f.view line) b) ++ noted step note lines (prefixed es (by_room f (answer f.view line) (made f.view line) b))) full
            ∙ noted_none step note lines (es ++ []) verdict.JournalFull

        by_lacks : (b : Bool) → lacks f line ≡ b → IsFound gs (line ∷ lines) es f (x ∷ front)
        by_lacks true full = let nothing : [] ≡ x ∷ (front ++ rest) = sym (none full) ∙ is in absurd (cc nothing)
        by_lacks false fits =
            let fs : List Effect = es ++ (answer f.view line).effects in
            let goes = noted_fits line lines es f fits in
            let k = found_behind lines below fs (answered f line) groups (made f.view line) x front rest (stands_more f groups line h) (sym goes ∙ is) read in
            let rest_found : IsFound gs lines fs (answered f line) k.0 = k.2 in
            record {
              before = line ∷ rest_found.before;
              later = rest_found.later;
              are = ap (λ (ls : List (List ℕ)). line ∷ ls) rest_found.are;
              fit = (fits, rest_found.fit);
              kept = noted_fits line rest_found.before es f fits ∙ ap (λ (xs : List Entry). lines_in (groups_of (made f.view line)) ++ xs) rest_found.kept ∙ k.1;
              stands = rest_found.stands;
            }

    found : (lines : List (List ℕ)) → Finds lines
    found [] es f groups [] rest h is read = found_none [] es f groups h read
    found [] es f groups (x ∷ front) rest h is read = absurd (cc is)
    found (line ∷ lines) es f groups [] rest h is read = found_none (line ∷ lines) es f groups h read
    found (line ∷ lines) es f groups (x ∷ front) rest h is read = found_line line lines (found lines) es f groups x front rest h is read

-- a disk of which a crash leaves just some entries holds them
module _ {D : Type 0} (state : D → DiskState) (left_since : D → ℕ → List ℕ → Type 0) where
  pub entries_held : (es : List Entry) (disk : D) (held : Content) → (state disk).content ≡ Some held → held.stable ≤ length held.bytes
      → ((t : ℕ) (image : List ℕ) → t ≤ (state disk).moment → MayLeave (state disk).content image → left_since disk t image) → LeavesNow (log_of state left_since) es disk → read_lines (entries held.bytes) ≡ Some es
  entries_held es disk held told whole counts leaves =
      leaves held.bytes (counts (state disk).moment held.bytes (omega arith) (subst (λ (c : Option Content). MayLeave c held.bytes) (sym told) (self_image held whole)))

-- an image that has such a front
module _ (d : DefinitionOrRefusal) (t : Tree) (held : List ℕ) (r : IsReplayed d t held) (lines : List (List ℕ)) where
  abbrev first : JournalView
  first = journal_at_first r

  -- groups that stand behind lines open the view again
  stood_again : (last : JournalView) (image : List ℕ) (gs : List Group) → entries image ≡ Ok gs → Stands r.loaded r.accepted.query last gs → (u : Tree) → loaded_or_refused u ≡ Ok r.loaded
      → (x : IsReplayed d u image) × (journal_at_first x ≡ ended_at last.journal.end (just_opened r.accepted.query last.view.session.catalogue))
  stood_again last image gs is stands u loads = (
    record {
      accepted = r.accepted;
      loaded = r.loaded;
      replay = record { catalogue = last.view.session.catalogue; end = last.journal.end };
      groups = gs;
      defined = r.defined;
      loads = loads;
      replays =
          ap (by_reading r.loaded) (read_is image gs is) ∙ ap (by_groups (size_of gs)) stands.made
          ∙ ap (λ (n : ℕ). Ok (record { catalogue = last.view.session.catalogue; end = n })) (sym stands.ends);
      holds = is;
      catalogue = all_made gs 1 r.loaded last.view.session.catalogue stands.made;
      unrefused = subst (λ (q : Query). refusal_of last.view.session.catalogue q ≡ None) stands.query stands.unrefused;
    },
    refl,
  )

  opens_again : (es : List Entry) (image : List ℕ) → read_lines (entries held) ≡ Some es → HasFront (λ bs. read_lines (entries bs)) es (noted step note lines (Continues [] first)) image → OpensAgain r es lines image
  opens_again es image there has = by_image (entries image) refl has.hold
    where
      by_image : (x : Result (List Group) ℕ) → entries image ≡ x → read_lines x ≡ Some (es ++ has.front) → OpensAgain r es lines image
      by_image (Err at) is e = absurd (cc e)
      by_image (Ok gs) is e =
          let h = replay_holds r.loaded held r.replay r.replays in
          let front_read : lines_in gs ≡ es ++ has.front = cc e in
          let at_first : Some (lines_in h.groups) ≡ Some es = sym (ap read_lines h.are) ∙ there in
          let es_are : lines_in h.groups ≡ es = cc at_first in
          let k = found r.loaded r.accepted.query gs (entries_said image gs is) lines [] first h.groups has.front has.rest
          (record { made = h.made; said = entries_said held h.groups h.are; ends = h.ends; group = no_group (opened r.accepted.query r.replay.catalogue) refl; unrefused = r.unrefused; query = refl }) has.are (front_read ∙ ap (λ (xs : List Entry). xs ++ has.front) (sym es_are)) in
          record {
            before = k.before;
            later = k.later;
            are = k.are;
            last = journal_behind first k.before;
            answered = lines_followed k.before [] first k.fit;
            holds = ap read_lines is ∙ e ∙ ap (λ (xs : List Entry). Some (es ++ xs)) (sym k.kept);
            again = λ u loads. stood_again (journal_behind first k.before) image gs is k.stands u loads;
          }

pub kept_made : KeptAreMade
kept_made d t held r es lines image there has = opens_again d t held r lines es image there has
