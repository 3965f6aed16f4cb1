-- From what `journal` did to what is promised of a whole run of it.
use Rattle.std.proofs.Common.{◌≡◌, ◌≢◌, ◌⊎◌, ℕ, List, [], ◌∷◌, ◌++◌, Option, Some, refl, sym, ap, ◌∙◌, subst, inl, inr, append-nil}
use Rattle.std.specs.Prelude.{Result, Ok, Err, IfOk, IfErr}
use Rattle.ss_text.specs.Texts.{Text}
use Rattle.outside.specs.Counts.{Rose}
use Rattle.outside.specs.Tree.{Tree}
use Rattle.outside.specs.Whole.{IsWhole}
use Rattle.disk.specs.Disk.{Content, DiskState}
use Rattle.outside.specs.Effects.{World, contents}
use Rattle.outside.proofs.EffectLemmas.{nothing_yet}
use Rattle.schema_model.proofs.ReadyLemmas.{same_some}
use Rattle.tab_lines.specs.Lines.{lines_of}
use Rattle.course.specs.declared.status.Verdict.{Verdict}
use Rattle.course.specs.declared.status.Halt.{Halt}
use Rattle.course.specs.declared.status.Halt.TheVariants as halt
use Rattle.course.specs.Answering.{Reply, Continues, BlamesRun, is_too_long}
use Rattle.course.specs.Keeping.{Entry, Log, LeavesNow, HasFront, DiskCause, BlamesDisk, noted}
use Rattle.course.proofs.KeepingLemmas.{at_every_moment}
use Rattle.change_journal.specs.Entries.{entries}
use Rattle.change_journal.specs.Lines.{read_lines}
use Rattle.journal_log.specs.Logs.{log_of}
use Rattle.course.specs.Course.{Course, RanBy, RanSome, Took, TookEnough, by_lines, status_of}
use Rattle.course.specs.Idle.{IdleRun}
use Rattle.course.proofs.FrontLemmas.{lines_front}
use Rattle.course.proofs.RefusedLemmas.{some_refused}
use Rattle.course.proofs.RunLemmas.{finishes, by_fault, by_end}
use Rattle.view_stages.specs.Opened.{view_exempt}
use Rattle.view_stages.specs.Opening.{IsDefinition, definition_bytes}
use Rattle.view_stages.specs.Places.{Exempt}
use Rattle.view_stages.specs.Stages.{DefinitionOrRefusal}
use Rattle.view_stages.proofs.DefinitionLemmas.{some_definition}
use Rattle.view_stages.proofs.PlaceLemmas.{AllWithin}
use Rattle.view_stages.proofs.StoppedLemmas.{Stopped}
use Rattle.journal_answers.specs.declared.view.JournalView.{JournalView}
use Rattle.journal_answers.specs.Answers.{step, note, finish}
use Rattle.journal_answers.specs.Kept.{RanOver, KeptOpened}
use Rattle.journal_answers.specs.Opening.{opening}
use Rattle.journal_law.specs.Behind.{journal_stages_from}
use Rattle.journal_law.specs.Law.{DidOver}
use Rattle.journal_law.specs.Promises.{journal_at_first}
use Rattle.journal_law.proofs.DidLemmas.{journal_did}
use Rattle.journal_law.proofs.JournaledLemmas.{did_journal, did_journal_cut_off, did_journal_held_up, did_journal_full}
use Rattle.journal_law.proofs.KeptLemmas.{kept_made}
use Rattle.journal_law.proofs.OpeningLemmas.{opening_case}
use Rattle.journal_law.proofs.RefusedLemmas.{journal_unchanged}
use Rattle.journal_law.proofs.StopLemmas.{journal_stops}
use Rattle.journal_law.proofs.WithinLemmas.{journal_within}
use Rattle.ss_top.specs.Between.{IsLeftIn}
use Rattle.ss_top.specs.Commands.{journal_of}
use Rattle.ss_top.specs.Journals.{Request, Asks, course_of, HasDefinition, DoesCourse, IsComplete, Journals, StopsAtSync, StopsAtFault, StopsWhereFull, OpensBehind, Reopens, KeepsAll, KeepsOthers, LeavesBetween, TakesLittle, TakesEnough}
use Rattle.ss_top.proofs.CourseLemmas.{IsFront, Fronts, held_up, told_front, leaves, keeps_ended}

pub has_definition : (words : List Text) → HasDefinition words
has_definition words name t is = some_definition name (definition_bytes t name)

-- a run whose disk did not fail
ran_by : (c : Course) (bytes : List ℕ) (rest : Option (List ℕ)) (old new : World) (r : Result Verdict Halt) → RanOver c bytes rest old new r → r ≢ Err halt.DiskFault → RanBy c bytes rest old new r
ran_by c bytes rest old new (Ok v) h never = h
ran_by c bytes rest old new (Err halt.InputFault) h never = h
ran_by c bytes rest old new (Err halt.TooLong) h never = h
ran_by c bytes rest old new (Err halt.DiskFault) h never = absurd (never refl)
ran_by c bytes rest old new (Err (halt.Stopped e)) h never = h

not_failed : (k l : ℕ) (r : Result Verdict Halt) → BlamesDisk k l r → (Rose k l → ⊥) → r ≢ Err halt.DiskFault
not_failed k l r disk steady is = steady (subst (λ (x : Result Verdict Halt). DiskCause x k l) is disk.because)

-- what a run left is between what is there before one of its stages and what is there behind it
module _ (q : Request) (input rest : Option (List ℕ)) (old new : World) (r : Result Verdict Halt) where
  front : IsFront (course_of q)
  front xs more es meant = lines_front step finish (opening q.tree q.held.bytes q.definition) xs more es meant

  over_front : (bytes : List ℕ) (x : Result Verdict Halt) → RanOver (course_of q) bytes rest old new x → Fronts (course_of q) old new (lines_of bytes)
  over_front bytes (Ok v) h = told_front (course_of q) old new front bytes rest (Ok v) h
  over_front bytes (Err halt.InputFault) h = told_front (course_of q) old new front bytes rest (Err halt.InputFault) h
  over_front bytes (Err halt.TooLong) h = told_front (course_of q) old new front bytes rest (Err halt.TooLong) h
  over_front bytes (Err halt.DiskFault) h = elim h [ inl none ↦ nothing_yet ((course_of q).whole (lines_of bytes)).effects (contents old) (contents new) none | inr g ↦ held_up (course_of q) old new front bytes rest g ]
  over_front bytes (Err (halt.Stopped e)) h = h

  left_between : old.store.tree ≡ Some q.tree → RanSome (course_of q) old new r → ((bytes : List ℕ) → input ≡ Some bytes → RanOver (course_of q) bytes rest old new r)
      → IsLeftIn (view_exempt q.definition) (journal_stages_from (opening q.tree q.held.bytes q.definition)) q.tree input new
  left_between told some ran =
      leaves (course_of q) old new (view_exempt q.definition) (journal_stages_from (opening q.tree q.held.bytes q.definition)) q.tree told
      (λ writes stored lines h.
      subst (λ (xs : List Exempt). Stopped xs (journal_stages_from (opening q.tree q.held.bytes q.definition) lines) q.tree (contents new)) (append-nil (view_exempt q.definition))
      (journal_stops (record { tree = q.tree; writes = writes }) (contents old) (contents new) stored lines q.held.bytes q.definition h))
      input r some (λ bytes given. over_front bytes r (ran bytes given))

-- no entry of none
front_of_none : {D : Type 0} (log : Log D) (es : List Entry) (c : List ℕ) → HasFront log.reads es [] c → log.reads c ≡ Some es
front_of_none log es c h = by_front h.front h.are h.hold
  where
    by_front : (front : List Entry) → [] ≡ front ++ h.rest → log.reads c ≡ Some (es ++ front) → log.reads c ≡ Some es
    by_front [] are is = is ∙ ap Some (append-nil es)
    by_front (x ∷ xs) are is = absurd (cc are)

-- what a crash left of a run opens again
module _ {D : Type 0} (state : D → DiskState) (left_since : D → ℕ → List ℕ → Type 0) (q : Request) (es : List Entry) (input rest : Option (List ℕ)) (before after : D) (old new : World) (r : Result Verdict Halt)
    (holds : read_lines (entries q.held.bytes) ≡ Some es) (first : LeavesNow (log_of state left_since) es before) (image : List ℕ) (left : left_since after (state before).moment image) where
  abbrev log : Log D
  log = log_of state left_since

  abbrev Opened : Reply JournalView → Type 0
  Opened x = KeptOpened step note log x es input rest before after old new r → (log.reads image ≡ Some es) ⊎ OpensBehind q es input image

  opens_behind : Opened (opening q.tree q.held.bytes q.definition)
  opens_behind = opening_case q.tree q.held.bytes q.definition Opened
      (λ fields v refused k. inl (front_of_none log es image (at_every_moment log es [] before after k.fronts first image left)))
      (λ x k. inr (record {
        replayed = x;
        answered = k.answered;
        under_way = k.under_way;
        few = k.few;
        first = k.first;
        opens = kept_made q.definition q.tree q.held.bytes x es (k.answered ++ k.under_way) image holds (at_every_moment log es (noted step note (k.answered ++ k.under_way) (Continues [] (journal_at_first x))) before after k.fronts first image left);
      }))

-- the course over a tree, the content of a disk and a definition
abbrev pub course_over : Tree → Content → DefinitionOrRefusal → Course
course_over t c d = by_lines step finish (opening t c.bytes d)

-- what the words ask of a store and of a disk
module _ (words : List Text) (name : Text) (is : journal_of words ≡ Some name) (old : World) (held : Option Content) where
  -- what is so over each tree, content and definition of the name is so of what they ask
  abbrev pub OverEach : (Tree → Content → DefinitionOrRefusal → Type 0) → Type 0
  OverEach P = (t : Tree) (c : Content) (d : DefinitionOrRefusal) → old.store.tree ≡ Some t → held ≡ Some c → IsDefinition name (definition_bytes t name) d → P t c d

  asking : (P : Tree → Content → DefinitionOrRefusal → Type 0) → OverEach P → (q : Request) → Asks words old held q → P q.tree q.held q.definition
  asking P each q asks =
      each q.tree q.held q.definition asks.told asks.holds (subst (λ (n : Text). IsDefinition n (definition_bytes q.tree n) q.definition) (same_some q.name name (sym asks.is ∙ is)) asks.defined)

  abbrev pub OverInput : Option (List ℕ) → (Tree → Content → List ℕ → DefinitionOrRefusal → Type 0) → Type 0
  OverInput input P = (t : Tree) (c : Content) (bytes : List ℕ) (d : DefinitionOrRefusal) → old.store.tree ≡ Some t → held ≡ Some c → input ≡ Some bytes → IsDefinition name (definition_bytes t name) d → P t c bytes d

  asking_over : (input : Option (List ℕ)) (P : Tree → Content → List ℕ → DefinitionOrRefusal → Type 0) → OverInput input P → (q : Request) (bytes : List ℕ) → Asks words old held q → input ≡ Some bytes → P q.tree q.held bytes q.definition
  asking_over input P each q bytes asks given = asking (λ t c d. P t c bytes d) (λ t c d told holds defined. each t c bytes d told holds given defined) q asks

  -- what a run did
  module _ (new : World) (r : Result Verdict Halt) where
    ran_some : OverEach (λ t c d. RanSome (course_over t c d) old new r) → (q : Request) → Asks words old held q → RanSome (course_of q) old new r
    ran_some = asking (λ t c d. RanSome (course_over t c d) old new r)

    pub keeps_all : OverEach (λ t c d. RanSome (course_over t c d) old new r) → KeepsAll words held old new (status_of r)
    keeps_all some q asks refused =
        let ran = ran_some some q asks in
        journal_unchanged q.tree old new asks.told (status_of r) refused ran.lines q.held.bytes q.definition (some_refused old new r refused ((course_of q).whole ran.lines) r refl ran.ran)

    pub keeps_others : OverEach (λ t c d. RanSome (course_over t c d) old new r) → KeepsOthers words held old new
    keeps_others some q asks =
        let ran = ran_some some q asks in
        keeps_ended (view_exempt q.definition) q.tree old new asks.told ((course_of q).whole ran.lines) r
        (subst (λ (xs : List Exempt). AllWithin xs ((course_of q).whole ran.lines).effects) (append-nil (view_exempt q.definition)) (journal_within q.tree q.held.bytes q.definition ran.lines)) ran.ran

    -- over an input, of which this is left
    module _ (input rest : Option (List ℕ)) where
      abbrev pub Ran : Type 0
      Ran = OverInput input (λ t c bytes d. RanOver (course_over t c d) bytes rest old new r)

      ran_told : Ran → (q : Request) (bytes : List ℕ) → Asks words old held q → input ≡ Some bytes → RanOver (course_of q) bytes rest old new r
      ran_told ran = asking_over input (λ t c bytes d. RanOver (course_over t c d) bytes rest old new r) ran

      pub leaves_between : OverEach (λ t c d. RanSome (course_over t c d) old new r) → Ran → LeavesBetween words held input old new
      leaves_between some ran q asks = left_between q input rest old new r asks.told (ran_some some q asks) (λ bytes given. ran_told ran q bytes asks given)

      module _ (i j : ℕ) (ran : Ran) (blames : BlamesRun i j old new r) (idle : IdleRun r old new) where
        pub does_course : DoesCourse words held input rest old new (status_of r)
        does_course q bytes asks given = journal_did (course_of q) bytes rest old new i j r (ran_told ran q bytes asks given) blames idle

        -- a tree that is told has no file outside a folder
        module _ (whole : (t : Tree) → old.store.tree ≡ Some t → IsWhole t) where
          did_over : (q : Request) (bytes : List ℕ) → Asks words old held q → input ≡ Some bytes → DidOver q.name q.tree q.held.bytes q.definition bytes rest old new (status_of r)
          did_over q bytes asks given = (asks.defined, asks.told, whole q.tree asks.told, does_course q bytes asks given)

          pub journals : Journals words held input old new (status_of r)
          journals q bytes asks given done = did_journal q.name q.tree q.held.bytes q.definition bytes rest old new (status_of r) (did_over q bytes asks given) done

          pub stops_at_sync : StopsAtSync words held input rest old new (status_of r)
          stops_at_sync q bytes asks given gave = did_journal_cut_off q.name q.tree q.held.bytes q.definition bytes rest old new (status_of r) (did_over q bytes asks given) gave

          pub stops_at_fault : StopsAtFault words held input old new (status_of r)
          stops_at_fault q bytes asks given is =
              did_journal_held_up q.name q.tree q.held.bytes q.definition bytes rest old new (subst (DidOver q.name q.tree q.held.bytes q.definition bytes rest old new) is (did_over q bytes asks given))

          pub stops_where_full : StopsWhereFull words held input old new (status_of r)
          stops_where_full q bytes asks given is =
              did_journal_full q.name q.tree q.held.bytes q.definition bytes rest old new (subst (DidOver q.name q.tree q.held.bytes q.definition bytes rest old new) is (did_over q bytes asks given))

        pub is_complete : (k l : ℕ) → BlamesDisk k l r → IsComplete words held input i j k l old new (status_of r)
        is_complete k l disk q bytes asks given none steady few some =
            let never = not_failed k l r disk steady in
            finishes (course_of q) bytes rest old new i j r (ran_by (course_of q) bytes rest old new r (ran_told ran q bytes asks given) never) blames idle never none few some

      -- and what it kept
      module _ {D : Type 0} (state : D → DiskState) (left_since : D → ℕ → List ℕ → Type 0) (before after : D) where
        abbrev pub AllKept : Type 0
        AllKept = (t : Tree) (c : Content) (d : DefinitionOrRefusal) (es : List Entry) → old.store.tree ≡ Some t → held ≡ Some c → IsDefinition name (definition_bytes t name) d → LeavesNow (log_of state left_since) es before
            → KeptOpened step note (log_of state left_since) (opening t c.bytes d) es input rest before after old new r

        kept_told : AllKept → (q : Request) (es : List Entry) → Asks words old held q → LeavesNow (log_of state left_since) es before → KeptOpened step note (log_of state left_since) (opening q.tree q.held.bytes q.definition) es input rest before after old new r
        kept_told kept q es asks first = asking (λ t c d. KeptOpened step note (log_of state left_since) (opening t c.bytes d) es input rest before after old new r) (λ t c d told holds defined. kept t c d es told holds defined first) q asks

        pub reopens : AllKept → ((c : Content) (es : List Entry) → held ≡ Some c → LeavesNow (log_of state left_since) es before → read_lines (entries c.bytes) ≡ Some es) → Reopens words held (log_of state left_since) input before after old
        reopens kept holds q es image asks first left = opens_behind state left_since q es input rest before after old new r (holds q.held es asks.holds first) first image left (kept_told kept q es asks first)

  -- what it took of its input
  module _ (r : Result Verdict Halt) (input rest last : Option (List ℕ)) where
    pub takes_little : (new : World) → OverInput input (λ t c bytes d. IfErr r (λ h. Took (course_over t c d) bytes rest last old new (is_too_long h))) → TakesLittle words held input rest last old new (status_of r)
    takes_little new taken q bytes asks given fault =
        by_fault r (Took (course_of q) bytes rest last old new) (asking_over input (λ t c bytes d. IfErr r (λ h. Took (course_over t c d) bytes rest last old new (is_too_long h))) taken q bytes asks given) fault

    pub takes_enough : OverInput input (λ t c bytes d. IfOk r (λ v. TookEnough (course_over t c d) bytes rest last)) → TakesEnough words held input rest last old (status_of r)
    takes_enough taken q bytes asks given ended = by_end r (TookEnough (course_of q) bytes rest last) (asking_over input (λ t c bytes d. IfOk r (λ v. TookEnough (course_over t c d) bytes rest last)) taken q bytes asks given) ended
